-- A row of numbers whose first numbers are given and whose others are as they were, and how a loop fills it.
use Rattle.std.specs.Prelude.{ℕ, ◌+◌, ◌≤◌, ◌<◌, List, ◌≡◌, refl, length, get_or, set}
use Rattle.std.proofs.Common.{arith, add-one, sym, subst, ◌∙◌, length-set, get_or-set_same, get_or-set_other}
use Rattle.finite.specs.Bounded.{below_suc}

-- The first k numbers are those of f, and the others are as they were.
pub record Filled (f : ℕ → ℕ) (k : ℕ) (old new : List ℕ) : Type 0 where
  pub size : length new ≡ length old
  pub numbers : (i : ℕ) → i < k → get_or new i 0 ≡ f i
  pub rest : (i : ℕ) → k ≤ i → get_or new i 0 ≡ get_or old i 0

pub filled_none : (f : ℕ → ℕ) (k : ℕ) (row : List ℕ) → k ≡ 0 → Filled f k row row
filled_none f k row first = record { size = refl; numbers = λ i l. absurd (omega (arith, first)); rest = λ i l. refl }

pub filled_more : (f : ℕ → ℕ) (k : ℕ) (old row : List ℕ) → k < length row → Filled f k old row → Filled f (k + 1) old (set row k (f k))
filled_more f k old row l h =
    record {
      size = length-set row k (f k) ∙ h.size;
      numbers = λ i m.
          below_suc
          k
          i
          (subst (λ (z : ℕ). i < z) (add-one k) m)
          (λ low. get_or-set_other row k i (f k) 0 (λ e. omega arith) ∙ h.numbers i low)
          (λ e. subst (λ (z : ℕ). get_or (set row k (f k)) z 0 ≡ f z) (sym e) (get_or-set_same row k (f k) 0 l));
      rest = λ i m. get_or-set_other row k i (f k) 0 (λ e. omega arith) ∙ h.rest i (omega arith);
    }
