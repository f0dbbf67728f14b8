-- The invariant: the first k words of the row `from` are united into the row `into`.
use Rattle.std.proofs.Common.{◌≤◌, ◌-◌}
use Rattle.marks.proofs.Rows.{Joining}
use Rattle.marks.proofs.join.Given as goal

abbrev pub invariant-loop-k : goal.invariant-loop-k
invariant-loop-k l = (l.k ≤ 8) × Joining l.initial.rows l.rows l.from l.into l.k

abbrev pub decreases-loop-k : goal.decreases-loop-k
decreases-loop-k l = 8 - l.k
