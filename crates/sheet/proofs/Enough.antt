-- The first bytes of a sheet, one more than the longest has, tell its fault: one with more bytes than these has the same.
use Rattle.std.specs.Prelude.{ℕ, zero, suc, ◌+◌, ◌*◌, ◌<◌, ◌≤◌, Bool, true, false, not, List, ◌≡◌, refl, eqb, ltb, leb, length}
use Rattle.std.proofs.Common.{le_of_lt, arith, ⊎_elim, sym, ap, ap₂, subst, ◌∙◌, le-ltb, leb→le, length-take-le, take_all}
use Rattle.std.proofs.Math.Option.{Option, none, some}
use Rattle.std.proofs.Math.Dec.{nleb→lt}
use Rattle.numbers.specs.Number.{number_take}
use Rattle.finite.specs.Bounded.{any_ext, decide}
use Rattle.finite.proofs.First.{first_ext, first_is}
use Rattle.sheet.specs.Table.{table_length, start, count, limit, item_length, item, body_end, due}
use Rattle.sheet.specs.Faults.{too_short, over_limit_at, over_limit, misplaced_at, misplaced, late_at, late, early_at, early, wrong_end, layout_faults, first_fault, fault_of}
use Rattle.sheet.specs.Laid.{longest}
use Rattle.sheet.proofs.Faultless.{layout_laid, layout_decides}
use Rattle.sheet.specs.Told.{no_fault, tell, plain, or_else, else_next, Told}
use Rattle.sheet.specs.Enough.{enough_bytes, enough}

-- The table is within it.
count_enough : (s : List ℕ) (e : ℕ) → e < 4 → count (enough s) e ≡ count s e
unfolding count
count_enough s e l = number_take enough_bytes 4 s (8 * e + 4) (omega arith)

start_enough : (s : List ℕ) (e : ℕ) → e < 4 → start (enough s) e ≡ start s e
unfolding start
start_enough s e l = number_take enough_bytes 4 s (8 * e) (omega arith)

limit_enough : (s : List ℕ) → over_limit (enough s) ≡ over_limit s
unfolding over_limit over_limit_at
limit_enough s = any_ext 4 _ _ (λ e l. ap (λ (n : ℕ). ltb (limit e) n) (count_enough s e l))

end_enough : (s : List ℕ) (e : ℕ) → e < 4 → body_end (enough s) e ≡ body_end s e
unfolding body_end item item_length
end_enough s e l = rw (start_enough s e l, count_enough s e l, count_enough s 0 (omega arith))

due_enough : (s : List ℕ) (e : ℕ) → e < 4 → due (enough s) e ≡ due s e
unfolding due
due_enough s zero l = refl
due_enough s (suc e) l = end_enough s e (omega arith)

starts_enough : (s : List ℕ) → misplaced (enough s) ≡ misplaced s
unfolding misplaced misplaced_at
starts_enough s =
    first_ext 4 _ _ (λ e l. ap₂ (λ (a b : ℕ). not (eqb a b)) (start_enough s e l) (due_enough s e l))

-- at the first wrong entry, which is one of the four, the same numbers are compared
late_at_lem : (s : List ℕ) (o : Option ℕ) → misplaced s ≡ o → (late_at (enough s) o ≡ late_at s o) × (early_at (enough s) o ≡ early_at s o)
unfolding misplaced
late_at_lem s none is = (refl, refl)
late_at_lem s (some e) is =
    let l = (first_is (misplaced_at s) 4 e is).below in
    let begin = start_enough s e l in
    let end = due_enough s e l in
    (ap₂ ltb end begin, ap₂ ltb begin end)

late_enough : (s : List ℕ) → (late (enough s) ≡ late s) × (early (enough s) ≡ early s)
unfolding late early
late_enough s =
    let same = late_at_lem s (misplaced s) refl in
    (ap (late_at (enough s)) (starts_enough s) ∙ same.0, ap (early_at (enough s)) (starts_enough s) ∙ same.1)

-- A sheet that isn't too short has the first of faults 2, 14, 15 and 4, if any. One that is too long has one of them.
abbrev of_four : Bool → Bool → Bool → Bool → Told
of_four two late early four =
    or_else (tell 2 (plain two)) (or_else (tell 14 (plain late)) (or_else (tell 15 (plain early)) (or_else (tell 4 (plain four)) no_fault)))

long_fault : (s : List ℕ) → table_length ≤ length s → first_fault layout_faults s ≡ of_four (over_limit s) (late s) (early s) (wrong_end s)
unfolding layout_faults first_fault too_short
long_fault s l =
    else_next _ _ (ap (λ (b : Bool). (tell 1 (plain b)).number) (le-ltb (length s) table_length l))

pub too_long : (s : List ℕ) → enough_bytes ≤ length s → ¬ ((first_fault layout_faults s).number ≡ 0)
too_long s l clear = omega (arith, longest s (layout_laid s clear))

-- where both have one of the four and agree on all but 4, it is the same
same_fault : (a b c d e : Bool) → ¬ ((of_four a b c d).number ≡ 0) → ¬ ((of_four a b c e).number ≡ 0) → of_four a b c d ≡ of_four a b c e
unfolding or_else
same_fault true b c d e m n = refl
same_fault false true c d e m n = refl
same_fault false false true d e m n = refl
same_fault false false false true true m n = refl
same_fault false false false true false m n = absurd (n refl)
same_fault false false false false e m n = absurd (m refl)

module _ (s : List ℕ) (long : enough_bytes ≤ length s) where
  pub size : length (enough s) ≡ enough_bytes
  size = length-take-le enough_bytes s long

  of_four_lem : first_fault layout_faults (enough s) ≡ of_four (over_limit s) (late s) (early s) (wrong_end (enough s))
  of_four_lem =
      let same = late_enough s in
      long_fault (enough s) (omega (arith, size))
      ∙ ap₂ (λ (a b : Bool). of_four a b (early (enough s)) (wrong_end (enough s))) (limit_enough s) same.0
      ∙ ap (λ (b : Bool). of_four (over_limit s) (late s) b (wrong_end (enough s))) same.1

  pub layout_enough : first_fault layout_faults (enough s) ≡ first_fault layout_faults s
  layout_enough =
      let whole = long_fault s (omega arith) in
      of_four_lem
      ∙ same_fault (over_limit s) (late s) (early s) (wrong_end (enough s)) (wrong_end s)
      (λ e. too_long (enough s) (omega (arith, size)) (ap (λ (f : Told). f.number) of_four_lem ∙ e))
      (λ e. too_long s long (ap (λ (f : Told). f.number) whole ∙ e))
      ∙ sym whole

  -- a sheet that is too long is faulty, and so is that much of it
  pub long_faulty : ¬ ((fault_of s).number ≡ 0)
  long_faulty clear = too_long s long (ap (λ (f : Told). f.number) (sym (layout_decides s (too_long s long))) ∙ clear)

  fault_long : fault_of (enough s) ≡ fault_of s
  fault_long =
      layout_decides (enough s) (too_long (enough s) (omega (arith, size)))
      ∙ layout_enough
      ∙ sym (layout_decides s (too_long s long))

-- a sheet that is no longer is all there
all_there : (s : List ℕ) → length s < enough_bytes → enough s ≡ s
all_there s l = take_all enough_bytes s (le_of_lt l)

-- Something holds of that much of a sheet if it does where there is more, and of the sheet itself where there is less.
pub by_length : (X : List ℕ → Type 0) (s : List ℕ) → (enough_bytes ≤ length s → X (enough s)) → (length s < enough_bytes → X s) → X (enough s)
by_length X s long short =
    ⊎_elim
    (λ t. long (leb→le enough_bytes (length s) t))
    (λ t. let l = nleb→lt enough_bytes (length s) t in subst X (sym (all_there s l)) (short l))
    (decide (leb enough_bytes (length s)))

-- "At most 21,281 bytes of it, which is enough to fault a longer one rightly": the fault of any bytes is that of their first 21,281.
pub fault_enough : (s : List ℕ) → fault_of (enough s) ≡ fault_of s
fault_enough s = by_length (λ (t : List ℕ). fault_of t ≡ fault_of s) s (fault_long s) (λ _. refl)
