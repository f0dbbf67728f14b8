-- The invariant: no place so far opens above the limit.
use Rattle.std.proofs.Common.{◌≤◌, false, ◌≡◌}
use Rattle.finite.specs.Bounded.{any}
use Rattle.sheet.specs.Faults.{over_opening_at}
use Rattle.sheet.specs.Table.{places_of}
use Rattle.items.proofs.over_opening.Given as goal

abbrev pub invariant-loop-p : goal.invariant-loop-p
invariant-loop-p l = (l.p ≤ places_of l.sheet.bytes.now) × (any l.p (over_opening_at l.sheet.bytes.now) ≡ false)
