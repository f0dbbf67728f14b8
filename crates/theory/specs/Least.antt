-- The least opening count without signs: it covers what each done set needs of the opening count, and some done set needs as much.
use Rattle.std.specs.Prelude.{ℕ, ◌+◌, ◌-◌, ◌≤◌, Bool, ◌≡◌, T, ℤ}
use Rattle.std.proofs.Common.{arith, ⊎_elim, sym, ◌∙◌}
use Rattle.std.proofs.Math.Path.{ap}
use Rattle.std.proofs.Math.Dec.{T_not}
use Rattle.std.proofs.Math.IntN.{sub_ℕ}
use Rattle.finite.specs.Bounded.{decide}
use Rattle.finite.specs.Subset.{Set, Within, empty, greatest, greatest_bounds, greatest_attained, greatest_least}
use Rattle.finite.specs.Sum.{on, over, on_yes, on_no, on_le, over_either}
use Rattle.plan.specs.Net.{Net, Plan, taken_by, given_by}
use Rattle.plan.specs.Order.{Sound}
use Rattle.plan.specs.Prefix.{IsPrefix, prefix, front, above0, need, least_opening}
use Rattle.theory.specs.Prefixes.{closed_prefix, prefix_is, within, reached, front_yes}
use Rattle.theory.specs.Signs.{tokens_minus, above0_minus}

-- ---- the greatest difference a D − b D over the sets that pass a test, or 0 if none is above 0

module _ (n : ℕ) (test : Set → Bool) (z : Set → ℤ) (a b : Set → ℕ) (is : (D : Set) → z D ≡ sub_ℕ (a D) (b D)) where
  difference : (D : Set) → above0 (z D) ≡ a D - b D
  difference D = ap above0 (is D) ∙ above0_minus (a D) (b D)

  pub greatest_covers : (D : Set) → Within n D → T (test D) → a D ≤ greatest n (λ E. on (test E) (above0 (z E))) + b D
  greatest_covers D w t =
      omega (arith, greatest_bounds n (λ E. on (test E) (above0 (z E))) D w, on_yes (test D) (above0 (z D)) t, difference D)

  pub greatest_within : (M : ℕ) → ((D : Set) → Within n D → T (test D) → a D ≤ M + b D) → greatest n (λ E. on (test E) (above0 (z E))) ≤ M
  greatest_within M h =
      greatest_least n (λ E. on (test E) (above0 (z E))) M each
    where
      each : (D : Set) → Within n D → on (test D) (above0 (z D)) ≤ M
      each D w =
          ⊎_elim
          (λ t. omega (arith, h D w t, on_le (test D) (above0 (z D)), difference D))
          (λ t. omega (arith, on_no (test D) (above0 (z D)) (T_not (test D) t)))
          (decide (test D))

  -- it is reached, if any set passes
  pub greatest_reached : (E : Set) → Within n E → T (test E) → (D : Set) × Within n D × T (test D) × (a D - b D ≡ greatest n (λ F. on (test F) (above0 (z F))))
  greatest_reached E v s =
      let w = greatest_attained n (λ F. on (test F) (above0 (z F))) in
      let D : Set = w.0 in
      ⊎_elim
      (λ t. (D, w.1, t, omega (arith, w.2, on_yes (test D) (above0 (z D)) t, difference D)))
      (λ t. (E, v, s, omega (arith, w.2, on_no (test D) (above0 (z D)) (T_not (test D) t), greatest_covers E v s)))
      (decide (test D))

-- ---- the least opening count

module _ (N : Net) (P : Plan) (p : ℕ) where
  -- all that a done set and its front take
  unfoldable pub taken : Set → ℕ
  taken D = over P.events (reached P D) (taken_by N P p)

  -- all that a done set gives
  abbrev pub given : Set → ℕ
  given D = over P.events D (given_by N P p)

  pub taken_split : (D : Set) → taken D ≡ over P.events D (taken_by N P p) + over P.events (front P D) (taken_by N P p)
  unfolding taken
  taken_split D = over_either P.events D (front P D) (taken_by N P p) (λ v d f. T_not (D v) (front_yes P D v f).outside d)

  pub need_is : (D : Set) → need N P p D ≡ sub_ℕ (taken D) (given D)
  unfolding need
  need_is D =
      tokens_minus (over P.events D (taken_by N P p)) (over P.events (front P D) (taken_by N P p)) (given D)
      ∙ ap (λ (t : ℕ). sub_ℕ t (given D)) (sym (taken_split D))

  pub need_above0 : (D : Set) → above0 (need N P p D) ≡ taken D - given D
  need_above0 D = ap above0 (need_is D) ∙ above0_minus (taken D) (given D)

  pub least_covers : (D : Set) → Within P.events D → T (prefix P D) → taken D ≤ least_opening N P p + given D
  unfolding least_opening
  least_covers = greatest_covers P.events (prefix P) (need N P p) taken given need_is

  -- it is at most a number as soon as that covers every done set
  pub least_is_least : (M : ℕ) → ((D : Set) → Within P.events D → T (prefix P D) → taken D ≤ M + given D) → least_opening N P p ≤ M
  unfolding least_opening
  least_is_least = greatest_within P.events (prefix P) (need N P p) taken given need_is

  module _ (S : Sound P) where
    pub least_bounds : (D : Set) → IsPrefix P D → taken D ≤ least_opening N P p + given D
    least_bounds D d = least_covers D (within P D d) ((prefix_is P D S (within P D d)).1 d)

    pub least_attained : (D : Set) × IsPrefix P D × (taken D - given D ≡ least_opening N P p)
    unfolding least_opening
    least_attained =
        let none : Within P.events empty = record { below = λ v t. absurd t } in
        let w = greatest_reached P.events (prefix P) (need N P p) taken given need_is empty none (closed_prefix P empty (record { closed = λ u v lu lv b d. d })) in
        (w.0, (prefix_is P w.0 S w.1).0 w.2, w.3)
