-- The invariant: each pair so far names two events.
use Rattle.std.proofs.Common.{◌≤◌, false, ◌≡◌}
use Rattle.finite.specs.Bounded.{any}
use Rattle.sheet.specs.Faults.{no_event_at}
use Rattle.sheet.specs.Table.{pairs_of}
use Rattle.items.proofs.no_event.Given as goal

abbrev pub invariant-loop-i : goal.invariant-loop-i
invariant-loop-i l = (l.i ≤ pairs_of l.sheet.bytes.now) × (any l.i (no_event_at l.sheet.bytes.now) ≡ false)
