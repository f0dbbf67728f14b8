-- The loop's invariant: the events below v that wait for nothing are in the queue.
use Rattle.std.proofs.Common.{◌≤◌}
use Rattle.finite.specs.Queue.{Queued}
use Rattle.sorting.specs.Sorted.{ready}
use Rattle.sorting.proofs.seed.Given as goal

abbrev pub invariant-loop-v : goal.invariant-loop-v
invariant-loop-v l = (l.v ≤ l.events) × (l.end ≤ l.v) × Queued l.events (ready l.v l.left) l.queue l.end
