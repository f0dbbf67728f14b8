-- The invariant: the numbers below p are what is above the opening counts.
use Rattle.std.proofs.Common.{◌-◌, ◌≤◌, get_or}
use Rattle.finite.specs.Filled.{Filled}
use Rattle.sheet.specs.Items.{opening_at}
use Rattle.sheet.specs.Table.{places_of}
use Rattle.place_counts.proofs.above_openings.Given as goal

abbrev pub invariant-loop-p : goal.invariant-loop-p
invariant-loop-p l = (l.p ≤ places_of l.sheet.bytes.now) × Filled (λ q. get_or l.least q 0 - opening_at l.sheet.bytes.now q) l.p l.initial.row l.row
