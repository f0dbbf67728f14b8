-- The loop's invariant: gone over are the pairs of the events before h in the queue, and those of the one at h from `at` on (`Walk`).
use Rattle.std.proofs.Common.{get_or}
use Rattle.sorting.specs.InRows.{plan_in}
use Rattle.sorting.proofs.Walks.{Walk}
use Rattle.sorting.proofs.follow.Given as goal

abbrev pub invariant-loop-at : goal.invariant-loop-at
invariant-loop-at l = Walk (plan_in l.pairs) l.initial.queue l.h (get_or l.initial.queue l.h 0) l.at l.left l.queue l.end

abbrev pub decreases-loop-at : goal.decreases-loop-at
decreases-loop-at l = l.at
