-- The invariant: no transition so far has a weight above the limit.
use Rattle.std.proofs.Common.{◌≤◌, false, ◌≡◌}
use Rattle.finite.specs.Bounded.{any}
use Rattle.sheet.specs.Faults.{over_weight_in}
use Rattle.sheet.specs.Table.{transitions_of}
use Rattle.items.proofs.over_weight.Given as goal

abbrev pub invariant-loop-t : goal.invariant-loop-t
invariant-loop-t l = (l.t ≤ transitions_of l.sheet.bytes.now) × (any l.t (over_weight_in l.sheet.bytes.now) ≡ false)
