-- The spare count: what it says of the least opening count and of the missing count, how it changes with the opening count and the order, and
-- what it lies between.
use Rattle.std.specs.Prelude.{ℕ, ◌+◌, ◌≤◌, ◌≡◌, eqb, pos, neg_ℤ, ◌+ℤ◌, ◌-ℤ◌, ◌≤ℤ◌}
use Rattle.std.proofs.Common.{add-zero, arith, ap, subst₂, ◌∙◌}
use Rattle.std.proofs.Math.Path.{sym, ap₂}
use Rattle.std.proofs.Math.Dec.{eqb_refl}
use Rattle.std.proofs.Math.IntN.{sub_ℕ, +ℤ_idl}
use Rattle.finite.specs.Sum.{on_yes}
use Rattle.plan.specs.Net.{Net, Plan}
use Rattle.plan.specs.Prefix.{above0, missing, least_opening, spare}
use Rattle.plan.specs.Compare.{with_more}
use Rattle.theory.specs.Comparisons.{least_more}
use Rattle.theory.specs.Missing.{missing_opening}
use Rattle.theory.specs.Signs.{minus, minus_turned, minus_minus, minus_below, passed_minus, above0_minus}

module _ (N : Net) (P : Plan) (p : ℕ) where
  pub spare_minus : spare N P p ≡ sub_ℕ (N.opening p) (least_opening N P p)
  unfolding spare
  spare_minus = minus (N.opening p) (least_opening N P p)

  -- The least opening count is what the opening count is above the spare count,
  pub least_spare : pos (N.opening p) -ℤ spare N P p ≡ pos (least_opening N P p)
  unfolding spare
  least_spare = minus_minus (pos (N.opening p)) (pos (least_opening N P p))

  -- and the missing count is its negative, or 0 where it isn't below 0.
  pub missing_spare : missing N P p ≡ above0 (neg_ℤ (spare N P p))
  unfolding spare
  missing_spare =
      let o = N.opening p in
      let l = least_opening N P p in
      missing_opening N P p ∙ sym (ap above0 (minus_turned (pos o) (pos l) ∙ minus l o) ∙ above0_minus l o)

  -- k more tokens opening raise it by exactly k.
  pub spare_more : (k : ℕ) → spare (with_more N p k) P p ≡ spare N P p +ℤ pos k
  unfolding spare
  spare_more k =
      let o = N.opening p in
      let l = least_opening N P p in
      minus ((with_more N p k).opening p) (least_opening (with_more N p k) P p)
      ∙ ap₂ sub_ℕ (ap (λ (x : ℕ). o + x) (on_yes (eqb p p) k (eqb_refl p))) (least_more N P p k)
      ∙ sym (passed_minus o l k)

  -- It passes no number that the opening count doesn't pass, nor, with its sign turned, any that the least opening count doesn't.
  pub spare_most : (m : ℕ) → N.opening p ≤ m → spare N P p ≤ℤ pos m
  spare_most m h =
      subst₂
      ◌≤ℤ◌
      (sym spare_minus)
      (sym (minus m 0) ∙ ap pos (add-zero m))
      (minus_below (N.opening p) (least_opening N P p) m 0 (omega (arith, h)))

  pub spare_least : (m : ℕ) → least_opening N P p ≤ m → neg_ℤ (pos m) ≤ℤ spare N P p
  spare_least m h =
      subst₂
      ◌≤ℤ◌
      (sym (minus 0 m) ∙ +ℤ_idl (neg_ℤ (pos m)))
      (sym spare_minus)
      (minus_below 0 m (N.opening p) (least_opening N P p) (omega (arith, h)))
