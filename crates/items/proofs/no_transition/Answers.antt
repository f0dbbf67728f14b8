use Rattle.std.proofs.Common.{arith, rules}
use Rattle.finite.specs.Search.{search_start}
use Rattle.sheet.specs.Faults.{no_transition}
use Rattle.sheet.specs.Told.{item_done}
use Rattle.items.proofs.Tests.{label_found, label_more}
use Rattle.items.proofs.no_transition.Goals as goal

pub loop-v-init : goal.loop-v-init
loop-v-init c = (search rules, search_start _)

pub returns-then-t-transitions : goal.returns-then-t-transitions
returns-then-t-transitions c = label_found _ _ _ c.loop-v.invariant.1 (omega arith) c.label-t.ensures (omega arith)

pub loop-v-preserved : goal.loop-v-preserved
loop-v-preserved c = (search rules, label_more _ _ _ c.loop-v.invariant.1 c.label-t.ensures (omega arith))

pub returns : goal.returns
unfolding no_transition
returns c = search (rules, item_done)
