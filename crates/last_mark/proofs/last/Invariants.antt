-- The invariant: from word k on, each word that `meet` makes is 0.
use Rattle.std.proofs.Common.{ℕ, ◌≤◌, ◌<◌}
use Rattle.last_mark.specs.Found.{Met}
use Rattle.last_mark.proofs.last.Given as goal

abbrev pub invariant-loop-k : goal.invariant-loop-k
invariant-loop-k g l = (l.k ≤ 8) × ((q : ℕ) → l.k ≤ q → q < 8 → Met (goal.F-post g l.meet) l.a l.i l.b l.j q 0)
