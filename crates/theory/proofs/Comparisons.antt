-- More order never raises the least opening count nor the missing count; the same weights and order leave what is said of a place the same.
use Rattle.std.specs.Prelude.{ℕ, ◌≤◌, ◌&&◌, ◌↔◌, ◌≡◌}
use Rattle.std.proofs.Common.{le_antisymm, arith}
use Rattle.std.proofs.Math.Path.{ap₂, fun_ext}
use Rattle.std.proofs.Math.Dec.{eqb}
use Rattle.finite.specs.Bounded.{◌⇒◌}
use Rattle.finite.specs.Subset.{Set, every}
use Rattle.plan.specs.Net.{Net, Plan, Labelled}
use Rattle.plan.specs.Order.{Before}
use Rattle.plan.specs.Prefix.{prefix, lack, above0, missing, least_opening, smallest}
use Rattle.plan.specs.Compare.{MoreOrder, SameAt, SameWeights, SamePlace}
use Rattle.theory.specs.Missing.{missing_opening}
use Rattle.theory.specs.Comparisons.{turned, least_order, weights_ordered, prefix_alike, lack_alike, place_same}

-- ---- the same weights, and more order

-- With the same order it is the same, whatever the opening counts are.
pub least_same : (N : Net) (P : Plan) (p : ℕ) (M : Net) (Q : Plan) (q : ℕ) → SameWeights N P p M Q q → ((u v : ℕ) → Before P u v ↔ Before Q u v)
    → least_opening N P p ≡ least_opening M Q q
least_same N P p M Q q s order =
    le_antisymm
    (least_order M Q q N P p (turned N P p M Q q s) (λ u v. (order u v).1))
    (least_order N P p M Q q s (λ u v. (order u v).0))

-- More order never raises it, nor the missing count.
module _ (N : Net) (P Q : Plan) (p : ℕ) (m : MoreOrder P Q) where
  pub least_ordered : least_opening N Q p ≤ least_opening N P p
  least_ordered = least_order N P p N Q p (weights_ordered N P Q p m) m.order

  pub missing_order : missing N Q p ≤ missing N P p
  missing_order = omega (arith, missing_opening N P p, missing_opening N Q p, least_ordered)

-- ---- the same weights and order

module _ (N : Net) (P : Plan) (p : ℕ) (M : Net) (Q : Plan) (q : ℕ) (s : SamePlace N P p M Q q) where
  pub least_alike : least_opening N P p ≡ least_opening M Q q
  least_alike = least_same N P p M Q q s.weights s.order

  pub missing_alike : missing N P p ≡ missing M Q q
  missing_alike = omega (arith, missing_opening N P p, missing_opening M Q q, least_alike, s.opening)

  pub smallest_alike : smallest N P p ≡ smallest M Q q
  unfolding smallest
  smallest_alike = fun_ext (λ v. ap₂ every s.weights.events (fun_ext (counts v)))
    where
      counts : (v : ℕ) (D : Set) → ((prefix P D && eqb (above0 (lack N P p D)) (missing N P p)) ⇒ D v) ≡ ((prefix Q D && eqb (above0 (lack M Q q D)) (missing M Q q)) ⇒ D v)
      counts v D = ap₂ (λ x y. (x && y) ⇒ D v) (prefix_alike N P p M Q q s D) (ap₂ (λ x y. eqb (above0 x) y) (lack_alike N P p M Q q s D) missing_alike)

-- Other places' numbers don't matter.
module _ (N M : Net) (P : Plan) (p : ℕ) (lab : Labelled N P) (s : SameAt p N M) where
  pub missing_same : missing N P p ≡ missing M P p
  missing_same = missing_alike N P p M P p (place_same N M P p lab s)
