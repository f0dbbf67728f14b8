use Rattle.std.proofs.Common.{arith, refl, sym, rules}
use Rattle.finite.specs.Search.{search_start}
use Rattle.sheet.specs.Faults.{over_weight_in}
use Rattle.weights.proofs.Found.{transition_more, all_seen}
use Rattle.weights.proofs.any_heavy.Goals as goal

pub loop-t-init : goal.loop-t-init
loop-t-init c = (search rules, sym (search_start _))

pub loop-t-preserved : goal.loop-t-preserved
loop-t-preserved c = (search rules, transition_more _ _ _ _ c.loop-t.invariant.1 c.is_heavy-heavy.ensures)

pub returns : goal.returns
returns c = all_seen _ _ (over_weight_in _) _ refl c.loop-t.invariant.0 (omega arith) c.loop-t.invariant.1
