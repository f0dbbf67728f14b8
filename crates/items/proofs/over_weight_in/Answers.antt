use Rattle.std.proofs.Common.{arith, rules}
use Rattle.finite.specs.Search.{search_start, search_done}
use Rattle.sheet.specs.Faults.{over_weight_in}
use Rattle.items.proofs.Tests.{takes_found, gives_found, weights_more}
use Rattle.items.proofs.over_weight_in.Goals as goal

pub loop-p-init : goal.loop-p-init
loop-p-init c = (search rules, search_start _)

pub returns-then-takes-gt-WEIGHT : goal.returns-then-takes-gt-WEIGHT
returns-then-takes-gt-WEIGHT c = takes_found _ _ _ _ (omega arith) c.takes.ensures (omega arith)

pub returns-then-gives-gt-WEIGHT : goal.returns-then-gives-gt-WEIGHT
returns-then-gives-gt-WEIGHT c = gives_found _ _ _ _ (omega arith) c.gives.ensures (omega arith)

pub loop-p-preserved : goal.loop-p-preserved
loop-p-preserved c = (search rules, weights_more _ _ _ _ _ c.loop-p.invariant.1 c.takes.ensures (omega arith) c.gives.ensures (omega arith))

pub returns : goal.returns
unfolding over_weight_in
returns c = search (rules, search_done)
