-- The loop's invariant: the first i pairs are listed and counted.
use Rattle.std.proofs.Common.{◌≤◌}
use Rattle.sorting.specs.InRows.{plan_in}
use Rattle.sorting.specs.Waiting.{Listed}
use Rattle.sorting.proofs.list_pairs.Given as goal

abbrev pub invariant-loop-i : goal.invariant-loop-i
invariant-loop-i l = (l.i ≤ l.pairs.count) × Listed (plan_in l.pairs) l.lists l.left l.i
