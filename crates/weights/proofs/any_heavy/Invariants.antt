-- The invariant: it is known whether a transition so far has a weight above the limit.
use Rattle.std.proofs.Common.{◌≤◌, ◌≡◌}
use Rattle.finite.specs.Bounded.{any}
use Rattle.sheet.specs.Faults.{over_weight_in}
use Rattle.sheet.specs.Table.{transitions_of}
use Rattle.weights.proofs.any_heavy.Given as goal

abbrev pub invariant-loop-t : goal.invariant-loop-t
invariant-loop-t l = (l.t ≤ transitions_of l.sheet.bytes.now) × (l.heavy ≡ any l.t (over_weight_in l.sheet.bytes.now))
