-- The missing count without signs: what the least opening count is above the opening count. It bounds what each done set lacks, and some done
-- set lacks as much.
use Rattle.std.specs.Prelude.{ℕ, ◌+◌, ◌-◌, ◌≤◌, ◌≡◌, ◌-ℤ◌}
use Rattle.std.proofs.Math.Nat.{le_antisymm}
use Rattle.std.proofs.Common.{arith, ◌∙◌}
use Rattle.std.proofs.Math.Path.{sym, ap}
use Rattle.std.proofs.Math.IntN.{sub_ℕ, pos}
use Rattle.finite.specs.Subset.{Set}
use Rattle.finite.specs.Sum.{sum, over, over_all}
use Rattle.plan.specs.Net.{Net, Plan, taken_by}
use Rattle.plan.specs.Order.{Sound}
use Rattle.plan.specs.Prefix.{IsPrefix, prefix, front, tokens, step_lack, lack, above0, missing, need, least_opening}
use Rattle.theory.specs.Least.{greatest_covers, greatest_within, taken, given, taken_split, need_is, least_covers, least_is_least, least_bounds, least_attained}
use Rattle.theory.specs.Prefixes.{reached}
use Rattle.theory.specs.Signs.{lack_minus, less_minus, above0_minus}

module _ (N : Net) (P : Plan) (p : ℕ) where
  -- what there is for a done set and its front: the opening count and what the done set gives
  unfoldable pub supply : Set → ℕ
  supply D = N.opening p + given N P p D

  pub step_lack_is : (D E : Set) → step_lack N P p D E ≡ sub_ℕ (over P.events E (taken_by N P p) + over P.events D (taken_by N P p)) (supply D)
  unfolding tokens supply
  step_lack_is D E =
      lack_minus (over P.events E (taken_by N P p)) (N.opening p) (given N P p D) (over P.events D (taken_by N P p))

  pub lack_is : (D : Set) → lack N P p D ≡ sub_ℕ (taken N P p D) (supply D)
  unfolding lack
  lack_is D =
      step_lack_is D (front P D) ∙ ap (λ (t : ℕ). sub_ℕ t (supply D)) (omega (arith, taken_split N P p D))

  pub lack_above0 : (D : Set) → above0 (lack N P p D) ≡ taken N P p D - supply D
  lack_above0 D = ap above0 (lack_is D) ∙ above0_minus (taken N P p D) (supply D)

  -- The lack of a done set is what its need is above the opening count.
  pub lack_need : (D : Set) → lack N P p D ≡ need N P p D -ℤ pos (N.opening p)
  unfolding supply
  lack_need D =
      lack_is D ∙ sym (ap (λ z. z -ℤ pos (N.opening p)) (need_is N P p D) ∙ less_minus (taken N P p D) (given N P p D) (N.opening p))

  -- The missing count is what the least opening count is above the opening count.
  pub missing_opening : missing N P p ≡ least_opening N P p - N.opening p
  unfolding missing supply
  missing_opening =
      le_antisymm
      (greatest_within P.events (prefix P) (lack N P p) (taken N P p) supply lack_is _ (λ D w t. omega (arith, least_covers N P p D w t)))
      (omega (arith, least_is_least N P p (missing N P p + N.opening p) (λ D w t. omega (arith, greatest_covers P.events (prefix P) (lack N P p) (taken N P p) supply lack_is D w t))))

  module _ (S : Sound P) where
    pub missing_bounds : (D : Set) → IsPrefix P D → taken N P p D ≤ missing N P p + supply D
    unfolding supply
    missing_bounds D d = omega (arith, least_bounds N P p S D d, missing_opening)

    pub missing_attained : (D : Set) × IsPrefix P D × (taken N P p D - supply D ≡ missing N P p)
    unfolding supply
    missing_attained = let w = least_attained N P p S in (w.0, w.1, omega (arith, w.2, missing_opening))

    -- no more is asked for than all events take
    pub least_most : least_opening N P p ≤ sum P.events (taken_by N P p)
    unfolding taken
    least_most =
        let w = least_attained N P p S in
        omega (arith, w.2, over_all P.events (reached P w.0) (taken_by N P p))
