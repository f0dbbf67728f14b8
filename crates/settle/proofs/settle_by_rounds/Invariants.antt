-- The loop's invariant: the rounds so far move tokens. What is lacking is the measure: each round but the last leaves less of it.
use Rattle.tokenflow.specs.Flowing.{lacking}
use Rattle.drawing.specs.Moves.{Moved}
use Rattle.tokenflow.specs.Lent.{rows_in}
use Rattle.settle.proofs.settle_by_rounds.Given as goal

abbrev pub invariant-loop-takers : goal.invariant-loop-takers
invariant-loop-takers l = Moved l.n l.pred (rows_in l.initial.flow) (rows_in l.flow)

abbrev pub decreases-loop-takers : goal.decreases-loop-takers
decreases-loop-takers l = lacking l.n (rows_in l.flow)
