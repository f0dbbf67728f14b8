use Rattle.std.proofs.Common.{arith, rules}
use Rattle.text.specs.Output.{writing_start, writing_more, writing_done}
use Rattle.last_line.proofs.put_events.Goals as goal

pub loop-v-init : goal.loop-v-init
loop-v-init c = writing_start (omega arith)

pub loop-v-preserved : goal.loop-v-preserved
loop-v-preserved c = search (rules, writing_more)

pub returns : goal.returns
returns c = search (rules, writing_done)
