-- More order never lowers the spare count, and other places' numbers don't matter to it.
use Rattle.std.specs.Prelude.{ℕ, ◌≡◌, pos, ◌-ℤ◌, ◌≤ℤ◌}
use Rattle.std.proofs.Common.{arith, subst₂}
use Rattle.std.proofs.Math.Path.{sym, ap₂}
use Rattle.plan.specs.Net.{Net, Plan, Labelled}
use Rattle.plan.specs.Prefix.{least_opening, spare}
use Rattle.plan.specs.Compare.{MoreOrder, SameAt, SamePlace}
use Rattle.theory.specs.Comparisons.{place_same}
use Rattle.theory.proofs.Comparisons.{least_ordered, least_alike}
use Rattle.theory.specs.Signs.{minus_below}
use Rattle.theory.specs.Spare.{spare_minus}

-- More order never lowers it.
pub spare_order : (N : Net) (P Q : Plan) (p : ℕ) → MoreOrder P Q → spare N P p ≤ℤ spare N Q p
spare_order N P Q p m =
    let o = N.opening p in
    subst₂
    ◌≤ℤ◌
    (sym (spare_minus N P p))
    (sym (spare_minus N Q p))
    (minus_below o (least_opening N P p) o (least_opening N Q p) (omega (arith, least_ordered N P Q p m)))

-- It is the same at a place with the same weights, order and opening count; other places' numbers don't matter.
pub spare_alike : (N : Net) (P : Plan) (p : ℕ) (M : Net) (Q : Plan) (q : ℕ) → SamePlace N P p M Q q → spare N P p ≡ spare M Q q
unfolding spare
spare_alike N P p M Q q s = ap₂ (λ (o l : ℕ). pos o -ℤ pos l) s.opening (least_alike N P p M Q q s)

pub spare_same : (N M : Net) (P : Plan) (p : ℕ) → Labelled N P → SameAt p N M → spare N P p ≡ spare M P p
spare_same N M P p lab s = spare_alike N P p M P p (place_same N M P p lab s)
