-- What is told of a call's fault: a lower fault first, then 12 and 13, and what is known where none of them is there.
use Rattle.std.specs.Prelude.{ℕ, ◌<◌, ◌≤◌, Bool, true, false, List, [], ◌∷◌, ◌≡◌, refl, leb, ltb, length}
use Rattle.std.proofs.Common.{⊎_elim, ◌∙◌, eq-zero-or-pos, arith}
use Rattle.std.proofs.Math.Path.{ap}
use denote.Floats.{is_true}
use Rattle.std.specs.Float.Ieee.Bits.{is_false}
use Rattle.finite.specs.Bounded.{decide}
use borrow.Author.Tests.{le-leb, lt-leb, leb-false, lt-ltb, le-ltb, ltb-false}
use Rattle.sheet.specs.Table.{places_of}
use Rattle.sheet.specs.Faults.{fault_of}
use Rattle.sheet.specs.Told.{fault_at, no_fault, tell, plain, or_else, else_first, else_next, Told}
use Rattle.calls.specs.Call.{next_fault, place_fault, row_fault}

-- What a chain of tests knows that stops at the first fault.
module _ (lower : Told) (found : Bool) (k : ℕ) where
  pub lower_told : ¬ (lower.number ≡ 0) → next_fault lower found k ≡ lower
  unfolding next_fault
  lower_told there = else_first lower _ there

  pub here_told : lower.number ≡ 0 → found ≡ true → next_fault lower found k ≡ fault_at k 0
  unfolding next_fault
  here_told clear here = else_next lower _ clear ∙ ap (λ (b : Bool). tell k (plain b)) here

  pub none_told : lower.number ≡ 0 → found ≡ false → next_fault lower found k ≡ no_fault
  unfolding next_fault
  none_told clear here = else_next lower _ clear ∙ ap (λ (b : Bool). tell k (plain b)) here

pub told_none : (lower : Told) (found : Bool) (k : ℕ) → 0 < k → (next_fault lower found k).number ≡ 0 → (lower.number ≡ 0) × (found ≡ false)
told_none lower found k l e =
    let clear : lower.number ≡ 0 =
    ⊎_elim
    (λ z. z)
    (λ there. absurd (omega (arith, ap (λ (f : Told). f.number) (lower_told lower found k (λ z. omega arith)))))
    (eq-zero-or-pos lower.number)
    in
    let absent : found ≡ false =
    ⊎_elim
    (λ t. absurd (omega (arith, ap (λ (f : Told). f.number) (here_told lower found k clear (is_true found t)))))
    (λ t. is_false found t)
    (decide found)
    in
    (clear, absent)

module _ (s : List ℕ) (p : ℕ) where
  pub sheet_first : ¬ ((fault_of s).number ≡ 0) → place_fault s p ≡ fault_of s
  unfolding place_fault
  sheet_first some = lower_told _ _ _ some

  pub no_place : (fault_of s).number ≡ 0 → places_of s ≤ p → place_fault s p ≡ fault_at 12 0
  unfolding place_fault
  no_place none l = here_told _ _ _ none (le-leb (places_of s) p l)

  pub a_place : (fault_of s).number ≡ 0 → p < places_of s → place_fault s p ≡ no_fault
  unfolding place_fault
  a_place none l = none_told _ _ _ none (lt-leb (places_of s) p l)

  pub place_known : (place_fault s p).number ≡ 0 → ((fault_of s).number ≡ 0) × (p < places_of s)
  unfolding place_fault
  place_known e =
      let both = told_none (fault_of s) (leb (places_of s) p) 12 (omega arith) e in
      (both.0, leb-false (places_of s) p both.1)

module _ (lower : Told) (row : List ℕ) (needed : ℕ) where
  pub lower_first : ¬ (lower.number ≡ 0) → row_fault lower row needed ≡ lower
  unfolding row_fault
  lower_first some = lower_told _ _ _ some

  pub short_row : lower.number ≡ 0 → length row < needed → row_fault lower row needed ≡ fault_at 13 0
  unfolding row_fault
  short_row none l = here_told _ _ _ none (lt-ltb (length row) needed l)

  pub long_row : lower.number ≡ 0 → needed ≤ length row → row_fault lower row needed ≡ no_fault
  unfolding row_fault
  long_row none l = none_told _ _ _ none (le-ltb (length row) needed l)

  pub row_known : (row_fault lower row needed).number ≡ 0 → (lower.number ≡ 0) × (needed ≤ length row)
  unfolding row_fault
  row_known e =
      let both = told_none lower (ltb (length row) needed) 13 (omega arith) e in
      (both.0, ltb-false (length row) needed both.1)

-- The table's small examples, each beside what is right: place 3 of three, and 2 numbers for three places.
example_12 : (s : List ℕ) → (fault_of s).number ≡ 0 → places_of s ≡ 3 → (place_fault s 3 ≡ fault_at 12 0) × (place_fault s 2 ≡ no_fault)
example_12 s clear three = (no_place s 3 clear (omega arith), a_place s 2 clear (omega arith))

example_13 : (a b c : ℕ) → (row_fault no_fault (a ∷ b ∷ []) 3 ≡ fault_at 13 0) × (row_fault no_fault (a ∷ b ∷ c ∷ []) 3 ≡ no_fault)
unfolding row_fault next_fault or_else
example_13 a b c = (refl, refl)
