-- The loop's invariant: takers that u feeds are listed behind those that were, and `via` stays. The measure is the room that is left in the queue.
use Rattle.std.proofs.Common.{◌-◌, ◌≡◌}
use Rattle.search.specs.Trail.{takers_of}
use Rattle.search.specs.Steps.{Following}
use Rattle.search.proofs.follow.Given as goal

abbrev pub invariant-loop-x : goal.invariant-loop-x
invariant-loop-x l =
    Following l.fed l.u.0 (takers_of l.initial.takers l.initial.trail.queue l.initial.trail.origin l.initial.end) (takers_of l.takers l.trail.queue l.trail.origin l.end)
    × (l.trail.via ≡ l.initial.trail.via)

abbrev pub decreases-loop-x : goal.decreases-loop-x
decreases-loop-x l = 256 - l.end
