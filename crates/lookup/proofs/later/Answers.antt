-- The second number at the pair is the item. The starts of the bodies say that it lies within the sheet.
use Rattle.std.proofs.Common.{arith, ◌∙◌}
use Rattle.lookup.proofs.Items.{later_is}
use Rattle.lookup.proofs.later.Goals as goal

pub returns : goal.returns
returns c = c.get16-v.ensures.0 ∙ later_is _ _ c.requires.laid_by _ _ (omega arith)
