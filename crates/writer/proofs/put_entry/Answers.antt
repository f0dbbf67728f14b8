-- The start, then the item count.
use Rattle.std.proofs.Common.{arith}
use Rattle.text.specs.Put.{put_then}
use Rattle.writer.specs.Written.{entry}
use Rattle.writer.specs.Lengths.{entry_length}
use Rattle.writer.proofs.Putting.{put_four}
use Rattle.writer.proofs.put_entry.Goals as goal

pub returns : goal.returns
unfolding entry
returns c =
    let both = put_then (put_four c.args.start c.to_le_bytes.ensures c.put_word-half.ensures) (put_four c.args.count c.to_le_bytes-2.ensures c.put_word.ensures) in
    (both, omega (arith, both.ends, entry_length c.args.start c.args.count))
