-- Words of 0 have no mark.
use Rattle.std.proofs.Common.{arith}
use Rattle.std.proofs.lemmas.Grind.{common_steps}
use Rattle.least.specs.PlaceRows.{cleared_unfed}
use Rattle.least.proofs.clear.Goals as goal

pub returns : goal.returns
returns c = cleared_unfed _ _ _ c.requires.unfed (grind (arith, common_steps))
