use Rattle.std.proofs.Common.{rules}
use Rattle.flowcheck.proofs.Told.{kept_start, kept_broken, kept_more, kept_done}
use Rattle.flowcheck.proofs.is_balanced.Goals as goal

pub loop-v-init : goal.loop-v-init
loop-v-init c = search (rules, kept_start)

pub returns-then-not-event_keeps : goal.returns-then-not-event_keeps
returns-then-not-event_keeps c = search (rules, kept_broken)

pub loop-v-preserved : goal.loop-v-preserved
loop-v-preserved c = search (rules, kept_more)

pub returns : goal.returns
returns c = search (rules, kept_done)
