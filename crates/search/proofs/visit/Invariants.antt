-- The loop's invariant: givers before the taker at `head` are met, and what they feed is listed. The measure counts the events not met.
use Rattle.std.proofs.Common.{◌-◌}
use Rattle.finite.specs.Count.{count}
use Rattle.search.specs.Row.{members}
use Rattle.search.specs.Trail.{takers_of, givers_of}
use Rattle.search.specs.Steps.{Visiting}
use Rattle.search.proofs.visit.Given as goal

abbrev pub invariant-loop-x : goal.invariant-loop-x
invariant-loop-x l =
    Visiting l.pred l.fed (takers_of l.initial.takers l.initial.trail.queue l.initial.trail.origin l.initial.end) (givers_of l.initial.givers l.initial.trail.via)
    (takers_of l.takers l.trail.queue l.trail.origin l.end) (givers_of l.givers l.trail.via)

abbrev pub decreases-loop-x : goal.decreases-loop-x
decreases-loop-x l =
    256 - count 256 (members l.givers)
