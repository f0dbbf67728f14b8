-- The place at h is one of 256.
use Rattle.std.proofs.Common.{arith}
use Rattle.sorting.proofs.Lists.{queued_few}
use Rattle.sorting.proofs.sort.Goals as goal

pub loop-h-smaller : goal.loop-h-smaller
loop-h-smaller c = omega (arith, c.loop-h-test.true, queued_few _ _ _ _ _ c.loop-h.invariant, c.args.pairs.now.within.few)
