use Rattle.std.proofs.Common.{arith, rules}
use Rattle.finite.specs.Search.{search_start}
use Rattle.sheet.specs.Faults.{self_pair}
use Rattle.sheet.specs.Told.{item_done}
use Rattle.items.proofs.Tests.{self_found, apart_more}
use Rattle.items.proofs.self_pair.Goals as goal

pub loop-i-init : goal.loop-i-init
loop-i-init c = (search rules, search_start _)

pub returns-then-eq : goal.returns-then-eq
returns-then-eq c = self_found _ _ _ _ c.loop-i.invariant.1 (omega arith) c.earlier.ensures c.later.ensures (search rules)

pub loop-i-preserved : goal.loop-i-preserved
loop-i-preserved c = (search rules, search (rules, apart_more))

pub returns : goal.returns
unfolding self_pair
returns c = search (rules, item_done)
