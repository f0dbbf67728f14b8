-- The invariant: the sum is what the events so far take, at most 1,000 each.
use Rattle.std.proofs.Common.{◌*◌, ◌≤◌, ◌≡◌}
use Rattle.counts.specs.Ends.{lost_by}
use Rattle.sheet.specs.Table.{events_of}
use Rattle.counts.proofs.lost.Given as goal

abbrev pub invariant-loop-v : goal.invariant-loop-v
invariant-loop-v l = (l.v ≤ events_of l.sheet.bytes.now) × (l.sum ≡ lost_by l.sheet.bytes.now l.p.0 l.v) × (l.sum ≤ 1000 * l.v)
