-- Invariant: the steps so far moved tokens, and the giver at hand is ready if the first one was. The place by way of which it was met falls.
use Rattle.std.proofs.Common.{◌<◌}
use Rattle.drawing.specs.Moves.{Moved}
use Rattle.search.specs.Trail.{◌!◌}
use Rattle.exchange.specs.Walk.{trail_rows, ReadyOn}
use Rattle.tokenflow.specs.Lent.{rows_in}
use Rattle.exchange.proofs.walk.Given as goal

abbrev pub invariant-loop-v : goal.invariant-loop-v
invariant-loop-v l =
    (l.giver.0 < l.n) × Moved l.n l.pred (rows_in l.initial.flow) (rows_in l.flow)
    × ReadyOn l.n l.pred (trail_rows l.trail.queue l.trail.origin l.trail.via) (rows_in l.initial.flow) (rows_in l.flow) l.initial.giver.0 l.giver.0

abbrev pub decreases-loop-v : goal.decreases-loop-v
decreases-loop-v l = l.trail.via ! l.giver.0
