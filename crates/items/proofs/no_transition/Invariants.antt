-- The invariant: each event so far names a transition.
use Rattle.std.proofs.Common.{◌≤◌, false, ◌≡◌}
use Rattle.finite.specs.Bounded.{any}
use Rattle.sheet.specs.Faults.{no_transition_at}
use Rattle.sheet.specs.Table.{events_of}
use Rattle.items.proofs.no_transition.Given as goal

abbrev pub invariant-loop-v : goal.invariant-loop-v
invariant-loop-v l = (l.v ≤ events_of l.sheet.bytes.now) × (any l.v (no_transition_at l.sheet.bytes.now) ≡ false)
