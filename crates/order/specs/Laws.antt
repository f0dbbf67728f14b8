-- What the rows of a faultless sheet's order say: which event is before which, and which pairs are skeleton pairs.
use Rattle.std.specs.Prelude.{ℕ, ◌<◌, not, List, ◌≡◌}
use Rattle.plan.specs.Order.{Named, before, skeleton}
use Rattle.plan.proofs.Closure.{says_before}
use Rattle.marks.specs.Marks.{marked, meeting}
use Rattle.closure.specs.PlanRows.{skeleton_rows}
use Rattle.sheet.specs.Table.{events_of, pairs_of}
use Rattle.sheet.specs.Items.{earlier_at, later_at, plan_of}
use Rattle.sheet.specs.Faultless.{Faultless}
use Rattle.order.specs.Rows.{OrderRows}

module _ (s : List ℕ) (known : Faultless s) where
  pub named : Named (plan_of s)
  named = record { earlier = known.earlier; later = known.later }

  module _ (succ pred : List ℕ) (rows : OrderRows (plan_of s) succ pred) where
    pub after_marked : (u v : ℕ) → u < events_of s → v < events_of s → marked succ u v ≡ before (plan_of s) u v
    after_marked u v hu hv = says_before (plan_of s) (marked succ u v) u v (rows.after.marks u v hu hv)

    pub ahead_marked : (u v : ℕ) → u < events_of s → v < events_of s → marked pred v u ≡ before (plan_of s) u v
    ahead_marked u v hu hv = says_before (plan_of s) (marked pred v u) u v (rows.ahead.marks v u hv hu)

    pub skeleton_marked : (i : ℕ) → i < pairs_of s → not (meeting succ (earlier_at s i) pred (later_at s i)) ≡ skeleton (plan_of s) i
    skeleton_marked = skeleton_rows (plan_of s) named succ rows.after pred rows.ahead known.laid.limited.events
