use Rattle.std.proofs.Common.{arith}
use Rattle.text.specs.Putting.{each_start, each_more, each_done}
use Rattle.kept_pairs.proofs.clean.put_kept.Goals as goal

pub loop-k-init : goal.loop-k-init
loop-k-init c = each_start (omega arith)

pub loop-k-preserved : goal.loop-k-preserved
loop-k-preserved c = each_more c.loop-k.invariant c.loop-k-test.true c.put_pair-end.ensures.0 (omega (arith, c.put_pair-end.ensures.1))

pub returns : goal.returns
returns c = each_done c.loop-k.invariant (omega (arith, c.loop-k-test.false))
