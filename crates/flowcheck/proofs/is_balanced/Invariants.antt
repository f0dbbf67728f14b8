-- The invariant: the events below v keep rules 1 and 2.
use Rattle.std.proofs.Common.{◌≤◌, ◌-◌, true, ◌≡◌}
use Rattle.finite.specs.Bounded.{all}
use Rattle.sheet.specs.Items.{net_of, plan_of}
use Rattle.calls.specs.FlowRow.{flow_of}
use Rattle.flowcheck.specs.Kept.{kept_at}
use Rattle.flowcheck.proofs.is_balanced.Given as goal

abbrev pub invariant-loop-v : goal.invariant-loop-v
invariant-loop-v l = (l.v ≤ l.v-end) × (all l.v (kept_at (net_of l.sheet.bytes.now) (plan_of l.sheet.bytes.now) l.p.0 (flow_of l.row)) ≡ true)

abbrev pub decreases-loop-v : goal.decreases-loop-v
decreases-loop-v l = l.v-end - l.v
