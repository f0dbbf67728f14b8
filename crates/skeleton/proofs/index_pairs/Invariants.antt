-- The invariant: the skeleton pairs among the first i are marked and listed.
use Rattle.std.proofs.Common.{◌-◌, ◌≤◌}
use Rattle.sheet.specs.Items.{plan_of}
use Rattle.skeleton.specs.Linked.{Linked}
use Rattle.skeleton.proofs.index_pairs.Given as goal

abbrev pub invariant-loop-i : goal.invariant-loop-i
invariant-loop-i l = (l.i ≤ l.i-end) × Linked (plan_of l.sheet.bytes.now) l.i l.skeleton.skel l.skeleton.index

abbrev pub decreases-loop-i : goal.decreases-loop-i
decreases-loop-i l = l.i-end - l.i
