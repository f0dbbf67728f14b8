-- The invariant: the first i pairs keep rule 4, and the sums are what they carry into each event and out of it.
use Rattle.std.proofs.Common.{◌≤◌, ◌-◌}
use Rattle.flow_sums.proofs.Pairs.{Added}
use Rattle.flow_sums.proofs.add_pairs.Given as goal

abbrev pub invariant-loop-i : goal.invariant-loop-i
invariant-loop-i l = (l.i ≤ l.i-end) × Added l.sheet.bytes.now l.row l.i l.carried.into l.carried.out

abbrev pub decreases-loop-i : goal.decreases-loop-i
decreases-loop-i l = l.i-end - l.i
