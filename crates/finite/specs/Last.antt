-- The last number below a bound that passes a test, told by the number after it, so that 0 says that there is none.
use Prim.Native.Nat.{ℕ, zero, suc, ◌+◌, ◌≤◌, ◌<◌}
use Rattle.std.proofs.Common.{add-one, sym, ◌∙◌}
use native.Mathlib.Omega.{arith}
use Rattle.std.specs.Prelude.{Bool, ◌≡◌}
use Rattle.std.proofs.Math.Bool.{true, false, cond}
use Rattle.std.proofs.Math.Path.{refl, ap, subst}
use denote.Floats.{is_true}
use Rattle.std.proofs.Math.Dec.{T, not_T}
use Rattle.std.specs.Float.Ieee.Bits.{is_false}
use Rattle.finite.specs.Bounded.{below_suc}

unfoldable pub last : ℕ → (ℕ → Bool) → ℕ
last zero f = 0
last (suc n) f = cond (f n) (suc n) (last n f)

module _ (f : ℕ → Bool) where
  pub last_start : last 0 f ≡ 0
  unfolding last
  last_start = refl

  last_suc : (n : ℕ) → last (n + 1) f ≡ cond (f n) (suc n) (last n f)
  unfolding last
  last_suc n = ap (λ (k : ℕ). last k f) (add-one n)

  pub last_here : (n : ℕ) → T (f n) → last (n + 1) f ≡ n + 1
  last_here n t = last_suc n ∙ ap (λ (b : Bool). cond b (suc n) (last n f)) (is_true (f n) t) ∙ sym (add-one n)

  pub last_still : (n : ℕ) → (T (f n) → ⊥) → last (n + 1) f ≡ last n f
  last_still n none = last_suc n ∙ ap (λ (b : Bool). cond b (suc n) (last n f)) (is_false (f n) (not_T (f n) none))

  pub last_le : (n : ℕ) → last n f ≤ n
  unfolding last
  last_le zero = omega arith
  last_le (suc n) = by_cases (f n) (last_le n)
    where
      by_cases : (b : Bool) → last n f ≤ n → cond b (suc n) (last n f) ≤ suc n
      by_cases true h = omega arith
      by_cases false h = omega (arith, h)

  -- what it tells passes
  pub last_passes : (n k : ℕ) → last n f ≡ k + 1 → T (f k)
  unfolding last
  last_passes zero k e = absurd (omega arith)
  last_passes (suc n) k e = by_cases (f n) (λ t. t) (last_passes n k) e
    where
      by_cases : (b : Bool) → (T b → T (f n)) → (last n f ≡ k + 1 → T (f k)) → cond b (suc n) (last n f) ≡ k + 1 → T (f k)
      by_cases true passes below e = let is : n ≡ k = omega (arith, e) in subst (λ (i : ℕ). T (f i)) is (passes tt)
      by_cases false passes below e = below e

  -- and whatever passes lies below what it tells
  pub last_above : (n i : ℕ) → i < n → T (f i) → i < last n f
  unfolding last
  last_above zero i l t = absurd (omega arith)
  last_above (suc n) i l t = by_cases (f n) refl (λ low. last_above n i low t)
    where
      by_cases : (b : Bool) → f n ≡ b → (i < n → i < last n f) → i < cond b (suc n) (last n f)
      by_cases true e below = omega arith
      by_cases false e below = below_suc n i l below (λ here. absurd (subst T (ap f here ∙ e) t))
