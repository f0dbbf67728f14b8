-- A way back along skeleton pairs, by the rows by which they are found.
use Rattle.std.specs.Prelude.{ℕ, ◌≤◌, List, ◌⊎◌, ◌≡◌}
use Rattle.ids.specs.Limits.{most_events}
use Rattle.plan.specs.Net.{Plan}
use Rattle.plan.specs.Order.{Before, Sound}
use Rattle.closure.specs.PlanRows.{Successors}
use Rattle.skeleton.specs.Linked.{IsLink, Linked}

-- Rows for a way back along skeleton pairs: row u of `succ` marks what is after u.
pub record Walkable (P : Plan) (succ skel index : List ℕ) : Type 0 where
  pub sound : Sound P
  pub few : P.events ≤ most_events
  pub after : Successors P succ
  pub linked : Linked P P.pairs skel index

-- v is one skeleton pair back from cur, and is u or after it
pub record StepBack (P : Plan) (u cur v : ℕ) : Type 0 where
  pub link : (i : ℕ) × IsLink P P.pairs v cur i
  pub onward : (v ≡ u) ⊎ Before P u v
