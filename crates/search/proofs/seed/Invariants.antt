-- The loop's invariant: the takers below w that have a share are listed.
use Rattle.std.proofs.Common.{◌≤◌}
use Rattle.search.specs.Steps.{Seeded}
use Rattle.search.proofs.seed.Given as goal

abbrev pub invariant-loop-w : goal.invariant-loop-w
invariant-loop-w l = (l.w ≤ l.n) × (l.tail ≤ l.w) × Seeded l.share l.w l.takers l.queue l.tail
