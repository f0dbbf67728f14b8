-- Its texts are put one after another.
use Rattle.lines.specs.Listing.{plan_line}
use Rattle.text.specs.Output.{◌then◌}
use Rattle.text.specs.Words.{word}
use Rattle.lines.proofs.put_plan.Goals as goal

pub returns-clause-written : goal.returns-clause-written
unfolding word plan_line
returns-clause-written c =
    c.field.ensures.written then c.field-2.ensures.written then c.field-3.ensures.written then c.word.ensures
