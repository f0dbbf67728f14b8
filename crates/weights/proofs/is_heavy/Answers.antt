use Rattle.std.proofs.Common.{arith, refl, sym, rules}
use Rattle.finite.specs.Search.{search_start}
use Rattle.sheet.specs.Faults.{over_weight_at, over_weight_in}
use Rattle.weights.proofs.Found.{place_more, all_seen}
use Rattle.weights.proofs.is_heavy.Goals as goal

pub loop-p-init : goal.loop-p-init
loop-p-init c = (search rules, sym (search_start _))

pub loop-p-preserved : goal.loop-p-preserved
loop-p-preserved c = (search rules, place_more _ _ _ _ _ _ c.loop-p.invariant.1 c.takes.ensures c.gives.ensures)

pub returns : goal.returns
unfolding over_weight_in
returns c = all_seen _ _ (over_weight_at _ _) _ refl c.loop-p.invariant.0 (omega arith) c.loop-p.invariant.1
