-- Rests on `Rounds`, for what a walk and a push come to.
use Rattle.settle.proofs.Rounds.{advance_some}
use Rattle.settle.proofs.advance.Goals as goal

pub returns-clause-advanced : goal.returns-clause-advanced
returns-clause-advanced c = advance_some c.walk.result c.requires.holds.events c.in-Some.ensures c.walk.ensures.walked c.push.ensures
