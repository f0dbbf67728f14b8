-- The loop's invariant: the turns so far move tokens, and the levels of the queue stay.
use Rattle.std.proofs.Common.{◌≡◌}
use Rattle.drawing.specs.Moves.{Moved}
use Rattle.tokenflow.specs.Lent.{rows_in}
use Rattle.push.proofs.pull.Given as goal

abbrev pub invariant-loop : goal.invariant-loop
invariant-loop l = Moved l.n l.pred (rows_in l.initial.flow) (rows_in l.flow) × (l.levels.of ≡ l.initial.levels.of)
