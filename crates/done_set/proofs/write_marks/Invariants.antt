-- `write_marks` meets its contract. The invariant: the events below v are marked, and the other marks as they were.
use Rattle.std.proofs.Common.{◌-◌, ◌≤◌}
use Rattle.finite.specs.Filled.{Filled}
use Rattle.search.specs.Row.{members}
use Rattle.done_set.specs.Mark.{mark_in}
use Rattle.done_set.proofs.write_marks.Given as goal

abbrev pub invariant-loop-v : goal.invariant-loop-v
invariant-loop-v l = (l.v ≤ l.n) × Filled (mark_in l.m (members l.set)) l.v l.initial.marks l.marks

abbrev pub decreases-loop-v : goal.decreases-loop-v
decreases-loop-v l = l.n - l.v
