-- What a search for the first number finds; and what a loop knows that tests each number in turn.
use Prim.Native.Nat.{ℕ, zero, suc, ◌<◌, ◌≤◌}
use Rattle.std.proofs.Math.Nat.{le_step}
use Rattle.std.proofs.Common.{lt-suc_self, arith, true≢false, ⊎_elim, sym, ap, subst, ◌∙◌, ltb→lt, nltb→le}
use Rattle.std.specs.Prelude.{Bool, true, false, ◌≡◌, ltb}
use Rattle.std.proofs.Math.Option.{Option, none, some}
use Rattle.std.proofs.Math.Path.{refl}
use Rattle.finite.specs.Bounded.{any, below_suc, decide}
use Rattle.finite.specs.Search.{search_none}
use Rattle.finite.specs.First.{or_here, first, FirstOf}

-- what a search says: where the first number is that passes, or that none does
abbrev Finds : ℕ → (ℕ → Bool) → Option ℕ → Type 0
Finds n f none = (i : ℕ) → i < n → f i ≡ false
Finds n f (some i) = FirstOf n f i

module _ (f : ℕ → Bool) where
  here_finds : (n : ℕ) (o : Option ℕ) (b : Bool) → f n ≡ b → Finds n f o → Finds (suc n) f (or_here o b n)
  here_finds n (some i) b e h = record { below = le_step h.below; passes = h.passes; before = h.before }
  here_finds n none true e h = record { below = lt-suc_self n; passes = e; before = h }
  here_finds n none false e h = λ i l. below_suc n i l (h i) (λ same. ap f same ∙ e)

  first_finds : (n : ℕ) → Finds n f (first n f)
  unfolding first
  first_finds zero = λ i l. absurd (omega arith)
  first_finds (suc n) = here_finds n (first n f) (f n) refl (first_finds n)

  -- only one number is the first
  the_first : (n i : ℕ) (o : Option ℕ) → Finds n f o → FirstOf n f i → o ≡ some i
  the_first n i none h g = absurd (true≢false (sym g.passes ∙ h i g.below))
  the_first n i (some j) h g =
      let above : i ≤ j =
      ⊎_elim
      (λ t. absurd (true≢false (sym h.passes ∙ g.before j (ltb→lt j i t))))
      (λ t. nltb→le j i t)
      (decide (ltb j i))
      in
      let below : j ≤ i =
      ⊎_elim
      (λ t. absurd (true≢false (sym g.passes ∙ h.before i (ltb→lt i j t))))
      (λ t. nltb→le i j t)
      (decide (ltb i j))
      in
      let same : j ≡ i = omega arith in
      ap some same

  no_first : (n : ℕ) (o : Option ℕ) → Finds n f o → ((i : ℕ) → i < n → f i ≡ false) → o ≡ none
  no_first n none h g = refl
  no_first n (some i) h g = absurd (true≢false (sym h.passes ∙ g i h.below))

  pub first_is : (n i : ℕ) → first n f ≡ some i → FirstOf n f i
  first_is n i e = subst (Finds n f) e (first_finds n)

  pub first_none : (n : ℕ) → first n f ≡ none → (i : ℕ) → i < n → f i ≡ false
  first_none n e = subst (Finds n f) e (first_finds n)

  -- What a loop knows that tests each number in turn: the bound is handed in as n and stands in the definition as m.
  pub first_found : (n m i : ℕ) → n ≡ m → i < n → any i f ≡ false → f i ≡ true → first m f ≡ some i
  first_found n m i e l none_before here =
      the_first m i (first m f) (first_finds m) (record { below = omega arith; passes = here; before = search_none i f none_before })

  pub first_done : (n m i : ℕ) → n ≡ m → n ≤ i → any i f ≡ false → first m f ≡ none
  first_done n m i e l none_before =
      no_first m (first m f) (first_finds m) (λ j k. search_none i f none_before j (omega arith))

-- where no number passes, there is no first
pub first_nothing : (n : ℕ) (f : ℕ → Bool) → ((i : ℕ) → i < n → f i ≡ false) → first n f ≡ none
first_nothing n f h = no_first f n (first n f) (first_finds f n) h

-- tests that agree below n find the same
pub first_ext : (n : ℕ) (f g : ℕ → Bool) → ((i : ℕ) → i < n → f i ≡ g i) → first n f ≡ first n g
unfolding first
first_ext zero f g h = refl
first_ext (suc n) f g h = simp (first_ext n f g (λ i l. h i (le_step l)), h n (lt-suc_self n))
