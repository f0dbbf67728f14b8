-- The invariant: the sum is the opening count and what the events so far give, at most 1,000 each.
use Rattle.std.proofs.Common.{◌+◌, ◌*◌, ◌≤◌, ◌≡◌}
use Rattle.counts.specs.Ends.{gained_by}
use Rattle.sheet.specs.Table.{events_of}
use Rattle.counts.proofs.gained.Given as goal

abbrev pub invariant-loop-v : goal.invariant-loop-v
invariant-loop-v l = (l.v ≤ events_of l.sheet.bytes.now) × (l.sum ≡ gained_by l.sheet.bytes.now l.p.0 l.v) × (l.sum ≤ 1000000 + 1000 * l.v)
