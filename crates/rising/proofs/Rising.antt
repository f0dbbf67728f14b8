-- Pairs that all go to higher numbers, or all to lower ones, have no cycle.
use Rattle.std.specs.Prelude.{ℕ, ◌<◌, true, false, List, ◌≡◌, get_or}
use Rattle.std.proofs.Common.{arith, ltb→lt}
use denote.Floats.{passes}
use Rattle.std.specs.Float.Ieee.Bits.{is_false}
use Rattle.std.proofs.Math.Facts.{not_T}
use Rattle.finite.specs.Bounded.{all_yes}
use Rattle.finite.specs.Search.{nothing_found}
use Rattle.plan.proofs.Closure.{before_test}
use Rattle.plan.specs.Net.{Plan}
use Rattle.plan.specs.Order.{Before, pair, chain, before}
use Rattle.sorting.specs.Rows.{plan_by, has_cycle}
use Rattle.rising.specs.Rising.{rises_at, rising}

rises_at_lem : (n : ℕ) (from to : List ℕ) → rising n from to ≡ true → (i : ℕ) → i < n → get_or from i 0 < get_or to i 0
unfolding rising rises_at
rises_at_lem n from to e i l = ltb→lt _ _ (all_yes n (rises_at from to) (passes _ e) i l)

module _ (P : Plan) where
  before_up : ((i : ℕ) → i < P.pairs → P.earlier i < P.later i) → {u v : ℕ} → Before P u v → u < v
  before_up up (pair i l) = up i l
  before_up up (chain b c) = omega (arith, before_up up b, before_up up c)

  before_down : ((i : ℕ) → i < P.pairs → P.later i < P.earlier i) → {u v : ℕ} → Before P u v → v < u
  before_down down (pair i l) = down i l
  before_down down (chain b c) = omega (arith, before_down down b, before_down down c)

  no_cycle : ((v : ℕ) → ¬ Before P v v) → has_cycle P ≡ false
  unfolding has_cycle
  no_cycle none = nothing_found P.events (λ v. before P v v) (λ v l. is_false (before P v v) (not_T (before P v v) (λ t. none v ((before_test P v v).0 t))))

module _ (events pairs : ℕ) (from to : List ℕ) where
  pub up_no_cycle : rising pairs from to ≡ true → has_cycle (plan_by events pairs from to) ≡ false
  up_no_cycle e = no_cycle _ (λ v b. omega (arith, before_up _ (rises_at_lem pairs from to e) b))

  pub down_no_cycle : rising pairs to from ≡ true → has_cycle (plan_by events pairs from to) ≡ false
  down_no_cycle e = no_cycle _ (λ v b. omega (arith, before_down _ (rises_at_lem pairs to from e) b))
