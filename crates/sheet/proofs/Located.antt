-- The fault that is told is the first one, and its item is where it is.
use Rattle.std.specs.Prelude.{ℕ, ◌<◌, ◌≤◌, Bool, true, ◌&&◌, List, [], ◌∷◌, ◌≡◌, refl, T, ltb}
use Rattle.std.proofs.Common.{arith, true≢false, sym, subst, ltb-true, ltb→lt}
use Rattle.std.proofs.Math.Option.{Option, none, some}
use Rattle.std.proofs.Math.Facts.{and_yes}
use Rattle.finite.proofs.First.{first_is}
use Rattle.sheet.specs.Table.{start, due, places_of, transitions_of, events_of, pairs_of}
use Rattle.sheet.specs.Told.{no_fault, fault_at, tell, plain, plain_item, or_else, else_next, else_first, Told}
use Rattle.sheet.specs.Faults.{too_short, over_limit, misplaced_at, misplaced, late_at, late, early_at, early, wrong_end, over_opening_at, over_opening, over_weight_in, over_weight}
use Rattle.sheet.specs.Faults.{no_transition_at, no_transition, no_event_at, no_event, self_pair_at, self_pair, repeat_at, repeated, cyclic}
use Rattle.sheet.specs.Faults.{Finder, layout_faults, number_faults, pair_faults, order_faults, content_faults, faults, first_fault, fault_of}
use Rattle.sheet.specs.Located.{FaultSays, fault_none, fault_1, fault_2, fault_14, fault_15, fault_4, fault_5, fault_6, fault_7, fault_8, fault_9, fault_10, fault_11}

-- ---- the proof

-- what holds of each fault of a list that is found, and where there is none, holds of the first
abbrev Each : (Told → Type 0) → List (ℕ × Finder) → List ℕ → Type 0
Each X [] s = Unit
Each X (f ∷ fs) s = ((i : ℕ) → f.1 s ≡ some i → X (fault_at f.0 i)) × Each X fs s

infixr 5 ◌also◌
abbrev ◌also◌ : {X Y : Type 0} → X → Y → X × Y
x also y = (x, y)

abbrev numbered : List (ℕ × Finder) → Bool
numbered [] = true
numbered (f ∷ fs) = ltb 0 f.0 && numbered fs

or_each : (X : Told → Type 0) (k : ℕ) (o : Option ℕ) (rest : Told) → 0 < k → ((i : ℕ) → o ≡ some i → X (fault_at k i)) → X rest → X (or_else (tell k o) rest)
or_each X k none rest l here h = subst X (sym (else_next no_fault rest refl)) h
or_each X k (some i) rest l here h = subst X (sym (else_first (fault_at k i) rest (λ z. omega arith))) (here i refl)

first_each : (X : Told → Type 0) (fs : List (ℕ × Finder)) (s : List ℕ) → T (numbered fs) → X no_fault → Each X fs s → X (first_fault fs s)
unfolding first_fault
first_each X [] s l h each = h
first_each X (f ∷ fs) s l h each =
    let both = and_yes (ltb 0 f.0) (numbered fs) l in
    or_each X f.0 (f.1 s) (first_fault fs s) (ltb→lt 0 f.0 both.0) each.0 (first_each X fs s both.1 h each.1)

module _ (s : List ℕ) where
  -- a fault without item, by its test
  plain_says : (k : ℕ) (test : Bool) → (test ≡ true → FaultSays s k 0) → (i : ℕ) → plain test ≡ some i → FaultSays s k i
  plain_says k test says i e =
      let both = plain_item test i e in
      subst (FaultSays s k) (sym both.1) (says both.0)

  late_says : (o : Option ℕ) → misplaced s ≡ o → late_at s o ≡ true → FaultSays s 14 0
  unfolding misplaced
  late_says none is e = absurd (true≢false (sym e))
  late_says (some e) is above = fault_14 e (first_is (misplaced_at s) 4 e is) (ltb-true (due s e) (start s e) above)

  early_says : (o : Option ℕ) → misplaced s ≡ o → early_at s o ≡ true → FaultSays s 15 0
  unfolding misplaced
  early_says none is e = absurd (true≢false (sym e))
  early_says (some e) is below = fault_15 e (first_is (misplaced_at s) 4 e is) (ltb-true (start s e) (due s e) below)

  pub located : FaultSays s (fault_of s).number (fault_of s).item
  unfolding fault_of faults layout_faults number_faults pair_faults order_faults content_faults late early over_opening over_weight no_transition no_event self_pair repeated
  located =
      first_each
      (λ f. FaultSays s f.number f.item)
      faults
      s
      tt
      fault_none
      (plain_says 1 (too_short s) fault_1
      also plain_says 2 (over_limit s) fault_2
      also plain_says 14 (late s) (late_says (misplaced s) refl)
      also plain_says 15 (early s) (early_says (misplaced s) refl)
      also plain_says 4 (wrong_end s) fault_4
      also (λ i e. fault_5 i (first_is (over_opening_at s) (places_of s) i e))
      also (λ i e. fault_6 i (first_is (over_weight_in s) (transitions_of s) i e))
      also (λ i e. fault_7 i (first_is (no_transition_at s) (events_of s) i e))
      also (λ i e. fault_8 i (first_is (no_event_at s) (pairs_of s) i e))
      also (λ i e. fault_9 i (first_is (self_pair_at s) (pairs_of s) i e))
      also (λ i e. fault_10 i (first_is (repeat_at s) (pairs_of s) i e))
      also plain_says 11 (cyclic s) fault_11
      also tt)

  -- the numbers go up to 15, and 13 isn't among them
  says_number : {k i : ℕ} → FaultSays s k i → (k ≤ 15) × ¬ (k ≡ 13)
  says_number fault_none = omega arith
  says_number (fault_1 h) = omega arith
  says_number (fault_2 h) = omega arith
  says_number (fault_14 e h l) = omega arith
  says_number (fault_15 e h l) = omega arith
  says_number (fault_4 h) = omega arith
  says_number (fault_5 p h) = omega arith
  says_number (fault_6 t h) = omega arith
  says_number (fault_7 v h) = omega arith
  says_number (fault_8 i h) = omega arith
  says_number (fault_9 i h) = omega arith
  says_number (fault_10 i h) = omega arith
  says_number (fault_11 h) = omega arith

  pub fault_most : (fault_of s).number ≤ 15
  fault_most = (says_number located).0

  pub fault_not_13 : ¬ ((fault_of s).number ≡ 13)
  fault_not_13 = (says_number located).1
