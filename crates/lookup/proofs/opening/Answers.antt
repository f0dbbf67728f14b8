-- The number at the place in the body of the places is the item. The starts of the bodies say that it lies within the sheet.
use Rattle.std.proofs.Common.{arith, ◌∙◌}
use Rattle.lookup.proofs.Items.{opening_is}
use Rattle.lookup.proofs.opening.Goals as goal

pub returns : goal.returns
returns c = c.get32.ensures.0 ∙ opening_is _ _ c.requires.laid_by _ _ (omega arith)
