-- Its texts are put one after another.
use Rattle.lines.specs.Listing.{totals_line}
use Rattle.text.specs.Output.{◌then◌}
use Rattle.text.specs.Words.{word}
use Rattle.lines.proofs.put_totals.Goals as goal

pub returns-clause-written : goal.returns-clause-written
unfolding word totals_line
returns-clause-written c = c.field.ensures.written then c.field-2.ensures.written then c.word.ensures
