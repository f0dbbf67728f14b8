-- The invariant: in every plan with this index pair i is in the list of b, and the pair that is sought is i or is listed before it.
use Rattle.skeleton.proofs.Seeking.{Seeking}
use Rattle.skeleton.proofs.pair_number.Given as goal

abbrev pub invariant-loop-a : goal.invariant-loop-a
invariant-loop-a l = Seeking l.index l.a.0 l.fn.b.0 l.i

abbrev pub decreases-loop-a : goal.decreases-loop-a
decreases-loop-a l = l.i
