use Rattle.std.proofs.Common.{arith}
use Rattle.text.specs.Output.{writing_start, writing_more}
use Rattle.place_lines.proofs.put_places.Goals as goal

pub loop-p-init : goal.loop-p-init
loop-p-init c = writing_start (omega arith)

pub loop-p-preserved : goal.loop-p-preserved
loop-p-preserved c = writing_more c.loop-p.invariant (omega arith) c.put_place.ensures.written c.put_place.ensures.room
