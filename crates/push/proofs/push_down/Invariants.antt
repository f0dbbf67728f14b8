-- The loop's invariant: the levels so far move tokens, `end` is a place of the queue or its end, and the levels of the queue stay.
use Rattle.std.proofs.Common.{◌≤◌, ◌≡◌}
use Rattle.drawing.specs.Moves.{Moved}
use Rattle.tokenflow.specs.Lent.{rows_in}
use Rattle.push.proofs.push_down.Given as goal

abbrev pub invariant-loop-level : goal.invariant-loop-level
invariant-loop-level l = Moved l.n l.pred (rows_in l.initial.flow) (rows_in l.flow) × (l.end ≤ 256) × (l.levels.of ≡ l.initial.levels.of)
