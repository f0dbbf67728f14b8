-- What is before in the turned plan is after in the plan, so it has a cycle exactly if the plan has one.
use Rattle.std.specs.Prelude.{ℕ, List, ◌≡◌, T}
use Rattle.std.proofs.Common.{subst}
use Rattle.closure.specs.Carried.{Within}
use Rattle.closure.specs.Ordered.{pair_before}
use Rattle.closure.specs.PlanRows.{PairRows, Successors, Predecessors}
use Rattle.finite.specs.Bounded.{any_ext}
use Rattle.plan.proofs.Closure.{before_test, says_before}
use Rattle.plan.specs.Net.{Plan}
use Rattle.plan.specs.Order.{Before, pair, chain, before}
use Rattle.sorting.specs.Rows.{has_cycle}
use Rattle.sorting.specs.Turned.{turned}

module _ (P : Plan) where
  turn : {u v : ℕ} → Before P u v → Before (turned P) v u
  turn (pair i l) = pair i l
  turn (chain b c) = chain (turn c) (turn b)

  turn_back : {u v : ℕ} → Before (turned P) u v → Before P v u
  turn_back (pair i l) = pair i l
  turn_back (chain b c) = chain (turn_back c) (turn_back b)

  -- It has a cycle exactly if the plan has one.
  pub turned_cycle : has_cycle (turned P) ≡ has_cycle P
  unfolding has_cycle
  turned_cycle =
      any_ext P.events (λ v. before (turned P) v v) (λ v. before P v v) (λ v l.
      says_before P (before (turned P) v v) v v (λ t. turn_back ((before_test (turned P) v v).0 t), λ b. (before_test (turned P) v v).1 (turn b)))

  pub turned_rows : (rows : List ℕ) → Predecessors (turned P) rows → Successors P rows
  turned_rows rows g =
      record {
        marks = λ u v lu lv. let is = g.marks u v lu lv in (λ t. turn_back (is.0 t), λ b. is.1 (turn b));
        only = g.only;
      }

  -- Rows of the pairs mark no more than what is after.
  pub pairs_within : (rows : List ℕ) → PairRows P P.pairs rows → Within (turned P) rows
  pairs_within rows g = record { only = λ v u l t. turn (pair_before P v u (subst T (g.marks v u l) t)) }
