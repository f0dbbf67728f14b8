use Rattle.std.proofs.Common.{arith, rules}
use Rattle.finite.specs.Search.{search_start}
use Rattle.sheet.specs.Faults.{no_event}
use Rattle.sheet.specs.Told.{item_done}
use Rattle.items.proofs.Tests.{earlier_found, later_found, ends_more}
use Rattle.items.proofs.no_event.Goals as goal

pub loop-i-init : goal.loop-i-init
loop-i-init c = (search rules, search_start _)

pub returns-then-u-events : goal.returns-then-u-events
returns-then-u-events c = earlier_found _ _ _ c.loop-i.invariant.1 (omega arith) c.earlier-u.ensures (omega arith)

pub returns-then-v-events : goal.returns-then-v-events
returns-then-v-events c = later_found _ _ _ c.loop-i.invariant.1 (omega arith) c.later-v.ensures (omega arith)

pub loop-i-preserved : goal.loop-i-preserved
loop-i-preserved c = (search rules, ends_more _ _ _ _ c.loop-i.invariant.1 c.earlier-u.ensures (omega arith) c.later-v.ensures (omega arith))

pub returns : goal.returns
unfolding no_event
returns c = search (rules, item_done)
