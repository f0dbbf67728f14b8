-- The loop's invariant: the draws so far move tokens.
use Rattle.drawing.specs.Moves.{Moved}
use Rattle.tokenflow.specs.Lent.{rows_in}
use Rattle.push.proofs.draw_lowest.Given as goal

abbrev pub invariant-loop-at : goal.invariant-loop-at
invariant-loop-at l = Moved l.n l.pred (rows_in l.initial.flow) (rows_in l.flow)
