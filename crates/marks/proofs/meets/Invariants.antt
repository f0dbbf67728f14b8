-- The invariant: `both` is the union, over the words so far, of what the two rows have in common.
use Rattle.std.proofs.Common.{length}
use Rattle.marks.proofs.Meeting.{Gathered}
use Rattle.marks.proofs.meets.Given as goal

abbrev pub invariant-loop-x : goal.invariant-loop-x
invariant-loop-x l = Gathered l.a l.i l.b l.j l.both (length l.yielded)
