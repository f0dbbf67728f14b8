-- Its texts are put one after another.
use Rattle.std.proofs.Common.{refl}
use Rattle.std.proofs.Math.IntN.{sub_ℕ}
use Rattle.lines.specs.Listing.{place_line}
use Rattle.text.specs.Output.{◌then◌, written_says}
use Rattle.text.specs.Words.{word, signed}
use Rattle.place_lines.proofs.put_counts.Goals as goal

pub returns-clause-written : goal.returns-clause-written
unfolding word place_line
returns-clause-written c =
    let ends = written_says c.signed.ensures.written (signed (sub_ℕ c.args.gained c.args.lost)) refl in
    let less = written_says c.signed-2.ensures.written (signed (sub_ℕ c.args.opening c.args.least)) refl in
    c.field.ensures.written then c.field-2.ensures.written then c.word.ensures then ends then c.word-2.ensures then less then c.word-3.ensures
