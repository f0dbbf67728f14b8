-- The invariant: no pair so far joins an event to itself.
use Rattle.std.proofs.Common.{◌≤◌, false, ◌≡◌}
use Rattle.finite.specs.Bounded.{any}
use Rattle.sheet.specs.Faults.{self_pair_at}
use Rattle.sheet.specs.Table.{pairs_of}
use Rattle.items.proofs.self_pair.Given as goal

abbrev pub invariant-loop-i : goal.invariant-loop-i
invariant-loop-i l = (l.i ≤ pairs_of l.sheet.bytes.now) × (any l.i (self_pair_at l.sheet.bytes.now) ≡ false)
