-- The invariant: the pairs so far are marked, and none of them repeats an earlier one. So the mark of the next pair says whether it does.
use Rattle.std.proofs.Common.{◌≤◌, false, ◌≡◌}
use Rattle.finite.specs.Bounded.{any}
use Rattle.sheet.specs.Items.{plan_of}
use Rattle.sheet.specs.Faults.{repeat_at}
use Rattle.sheet.specs.Table.{pairs_of}
use Rattle.order.specs.Rows.{PairsHeld}
use Rattle.order.proofs.mark_pairs.Given as goal

abbrev pub invariant-loop-i : goal.invariant-loop-i
invariant-loop-i l = (l.i ≤ pairs_of l.sheet.bytes.now) × (any l.i (repeat_at l.sheet.bytes.now) ≡ false) × PairsHeld (plan_of l.sheet.bytes.now) l.i l.succ l.from l.to
