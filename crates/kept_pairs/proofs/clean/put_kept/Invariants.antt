-- The invariant: the first k pairs of the rows are put (`Putting`).
use Rattle.text.specs.Putting.{Putting}
use Rattle.kept_pairs.specs.PairsKnown.{rows_bytes}
use Rattle.kept_pairs.proofs.clean.put_kept.Given as goal

abbrev pub invariant-loop-k : goal.invariant-loop-k
invariant-loop-k l = Putting l.initial.clean l.clean l.at (rows_bytes l.kept.from l.kept.to) 4 l.kept.count l.k l.end
