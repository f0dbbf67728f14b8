use Rattle.std.proofs.Common.{arith, rules}
use Rattle.finite.specs.Search.{search_start}
use Rattle.sheet.specs.Faults.{over_opening}
use Rattle.sheet.specs.Told.{item_done}
use Rattle.items.proofs.Tests.{opening_found, opening_more}
use Rattle.items.proofs.over_opening.Goals as goal

pub loop-p-init : goal.loop-p-init
loop-p-init c = (search rules, search_start _)

pub returns-then-opening-gt-OPENING : goal.returns-then-opening-gt-OPENING
returns-then-opening-gt-OPENING c = opening_found _ _ _ c.loop-p.invariant.1 (omega arith) c.opening.ensures (omega arith)

pub loop-p-preserved : goal.loop-p-preserved
loop-p-preserved c = (search rules, search (rules, opening_more))

pub returns : goal.returns
unfolding over_opening
returns c = search (rules, item_done)
