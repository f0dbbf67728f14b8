-- The number at the event in the body of the events is the item. The starts of the bodies say that it lies within the sheet.
use Rattle.std.proofs.Common.{arith, ◌∙◌}
use Rattle.lookup.proofs.Items.{label_is}
use Rattle.lookup.proofs.label.Goals as goal

pub returns : goal.returns
returns c = c.get16-t.ensures.0 ∙ label_is _ _ c.requires.laid_by _ _ (omega arith)
