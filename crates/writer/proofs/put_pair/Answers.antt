-- The earlier event, then the later one.
use Rattle.std.proofs.Common.{arith}
use Rattle.text.specs.Put.{put_then}
use Rattle.writer.specs.Written.{pair_bytes}
use Rattle.writer.specs.Lengths.{pair_length}
use Rattle.writer.proofs.Putting.{put_two}
use Rattle.writer.proofs.put_pair.Goals as goal

pub returns : goal.returns
unfolding pair_bytes
returns c =
    let both = put_then (put_two c.args.a.0 c.to_le_bytes.ensures c.put_word-half.ensures) (put_two c.args.b.0 c.to_le_bytes-2.ensures c.put_word.ensures) in
    (both, omega (arith, both.ends, pair_length c.args.a.0 c.args.b.0))
