-- The number at the place in the item of the transition is the weight, and that item lies within the sheet.
use Rattle.std.proofs.Common.{arith, ◌∙◌}
use Rattle.lookup.proofs.Items.{transition_there, gives_is}
use Rattle.lookup.proofs.gives.Goals as goal

pub overflow_add-transition_at : goal.overflow_add-transition_at
overflow_add-transition_at c = omega (arith, transition_there _ _ c.requires.laid_by _ _ c.transition_at.ensures c.requires.t_lt_transitions.0)

pub get16-requires : goal.get16-requires
get16-requires c = omega (arith, transition_there _ _ c.requires.laid_by _ _ c.transition_at.ensures c.requires.t_lt_transitions.0)

pub returns : goal.returns
returns c = c.get16.ensures.0 ∙ gives_is _ _ c.requires.laid_by _ _ c.transition_at.ensures _ _ (omega arith)
