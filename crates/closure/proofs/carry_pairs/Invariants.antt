-- The loop's invariant: carried are the pairs of the events before h in the queue, and those of the one at h from `at` on (`Along`).
use Rattle.std.proofs.Common.{get_or}
use Rattle.closure.specs.InOrder.{starts_below}
use Rattle.closure.proofs.Along.{Along}
use Rattle.sorting.specs.InRows.{plan_in}
use Rattle.closure.proofs.carry_pairs.Given as goal

abbrev pub invariant-loop-at : goal.invariant-loop-at
invariant-loop-at l =
    Along (plan_in l.pairs) (get_or l.sorting.queue l.h 0) (starts_below (plan_in l.pairs) l.sorting.queue l.h) l.at l.rows

abbrev pub decreases-loop-at : goal.decreases-loop-at
decreases-loop-at l = l.at
