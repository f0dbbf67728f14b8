-- The invariant: it is known whether the pairs so far go to higher numbers.
use Rattle.std.proofs.Common.{length, ◌≡◌}
use Rattle.rising.specs.Rising.{rising}
use Rattle.rising.proofs.rises.Given as goal

abbrev pub invariant-loop-a : goal.invariant-loop-a
invariant-loop-a l = l.up ≡ rising (length l.yielded) l.from l.to
