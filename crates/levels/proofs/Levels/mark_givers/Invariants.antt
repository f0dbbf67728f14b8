-- The loop's invariant: the levels of the queue stay.
use Rattle.std.proofs.Common.{◌≡◌}
use Rattle.levels.proofs.Levels.mark_givers.Given as goal

abbrev pub invariant-loop-u : goal.invariant-loop-u
invariant-loop-u l = l.self.of ≡ l.initial.self.of
