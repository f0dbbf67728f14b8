-- The invariant: `v` is the verdict on the places below p.
use Rattle.std.proofs.Common.{◌-◌, ◌≤◌, length}
use Rattle.summary.specs.Summary.{count_at, VerdictOf}
use Rattle.summary.proofs.verdict_of.Given as goal

abbrev pub invariant-loop-p : goal.invariant-loop-p
invariant-loop-p l = (l.p ≤ length l.counts) × VerdictOf (count_at l.counts) l.p l.v

abbrev pub decreases-loop-p : goal.decreases-loop-p
decreases-loop-p l = length l.counts - l.p
