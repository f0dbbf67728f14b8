-- The loop's invariant: the pairs of the first h events of the queue are carried (`CarriedTo`).
use Rattle.std.proofs.Common.{◌≤◌}
use Rattle.closure.specs.InOrder.{CarriedTo}
use Rattle.sorting.specs.InRows.{plan_in}
use Rattle.closure.proofs.close.Given as goal

abbrev pub invariant-loop-h : goal.invariant-loop-h
invariant-loop-h l = (l.h ≤ l.pairs.events) × CarriedTo (plan_in l.pairs) l.sorting.queue l.h l.rows
