-- The loop's invariant: the takers at the first `head` places are visited.
use Rattle.std.proofs.Common.{◌-◌}
use Rattle.search.specs.Trail.{takers_of, givers_of}
use Rattle.search.proofs.Rounds.{Searching}
use Rattle.search.proofs.search.Given as goal

abbrev pub invariant-loop-head : goal.invariant-loop-head
invariant-loop-head l =
    Searching l.pred l.fed l.share l.n (takers_of l.takers l.trail.queue l.trail.origin l.tail) (givers_of l.givers l.trail.via) l.head

abbrev pub decreases-loop-head : goal.decreases-loop-head
decreases-loop-head l =
    256 - l.head
