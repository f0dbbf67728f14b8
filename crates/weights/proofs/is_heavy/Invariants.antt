-- The invariant: it is known whether a weight of the transition so far is above the limit.
use Rattle.std.proofs.Common.{◌≤◌, ◌≡◌}
use Rattle.finite.specs.Bounded.{any}
use Rattle.sheet.specs.Faults.{over_weight_at}
use Rattle.sheet.specs.Table.{places_of}
use Rattle.weights.proofs.is_heavy.Given as goal

abbrev pub invariant-loop-p : goal.invariant-loop-p
invariant-loop-p l = (l.p ≤ places_of l.sheet.bytes.now) × (l.heavy ≡ any l.p (over_weight_at l.sheet.bytes.now l.t.0))
