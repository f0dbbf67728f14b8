use Rattle.std.proofs.Common.{rules}
use Rattle.finite.specs.Search.{search_start}
use Rattle.sheet.specs.Faults.{over_weight}
use Rattle.sheet.specs.Told.{item_done}
use Rattle.items.proofs.Tests.{weight_found, weight_more}
use Rattle.items.proofs.over_weight.Goals as goal

pub loop-t-init : goal.loop-t-init
loop-t-init c = (search rules, search_start _)

pub returns-then-over_weight_in : goal.returns-then-over_weight_in
returns-then-over_weight_in c = search (rules, weight_found)

pub loop-t-preserved : goal.loop-t-preserved
loop-t-preserved c = (search rules, search (rules, weight_more))

pub returns : goal.returns
unfolding over_weight
returns c = search (rules, item_done)
