-- The invariant: what the events below v give and take stands in the two rows.
use Rattle.std.proofs.Common.{◌≤◌}
use Rattle.finite.specs.Filled.{Filled}
use Rattle.place.specs.Place.{gives_in, takes_in}
use Rattle.sheet.specs.Table.{events_of}
use Rattle.place.proofs.fill.Given as goal

abbrev pub invariant-loop-v : goal.invariant-loop-v
invariant-loop-v l =
    (l.v ≤ events_of l.sheet.bytes.now) × Filled (gives_in l.sheet.bytes.now l.p.0) l.v l.initial.free l.free × Filled (takes_in l.sheet.bytes.now l.p.0) l.v l.initial.share l.share
