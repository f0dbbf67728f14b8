use Rattle.text.specs.Output.{◌then◌}
use Rattle.text.proofs.Output.field.Goals as goal

pub returns-clause-written : goal.returns-clause-written
returns-clause-written c = c.word.ensures then c.number.ensures
