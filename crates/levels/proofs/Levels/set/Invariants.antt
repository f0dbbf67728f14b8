-- The loop's invariant: the level is one that has rows, and the rows of marks stay.
use Rattle.std.proofs.Common.{◌<◌, ◌≡◌}
use Rattle.levels.proofs.Levels.set.Given as goal

abbrev pub invariant-loop-at : goal.invariant-loop-at
invariant-loop-at l = (l.level < 256) × (l.self.sets ≡ l.initial.self.sets)
