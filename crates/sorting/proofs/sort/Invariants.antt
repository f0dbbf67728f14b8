-- The loop's invariant: the pairs of the first h events of the queue are gone over (`Round`).
use Rattle.std.proofs.Common.{◌-◌}
use Rattle.ids.specs.Limits.{most_events}
use Rattle.sorting.specs.InRows.{plan_in}
use Rattle.sorting.specs.Sorted.{Round}
use Rattle.sorting.proofs.sort.Given as goal

abbrev pub invariant-loop-h : goal.invariant-loop-h
invariant-loop-h l = Round (plan_in l.pairs) l.left l.queue l.h l.end

abbrev pub decreases-loop-h : goal.decreases-loop-h
decreases-loop-h l = most_events - l.h
