-- The start of a body: whether it is right, and that the fault at the first wrong one is the sheet's.
use Prim.Native.Nat.{ℕ, ◌+◌, ◌<◌}
use native.Mathlib.Nat.{eq-zero-or-pos}
use native.Mathlib.Omega.{arith}
use mathlib.Core.Bool.{Bool, true, false, not}
use mathlib.Core.List.{List}
use mathlib.Core.Logic.{⊎_elim}
use mathlib.Core.Option.{Option}
use mathlib.Core.Path.{◌≡◌, refl, sym, ap, ap₂, ◌∙◌}
use borrow.Author.Tests.{ltb-false, lt-ltb, le-ltb, ne_eqb, eq-eqb}
use lib.Dec.{ltb}
use Rattle.finite.specs.Bounded.{any}
use Rattle.finite.proofs.First.{first_found, first_done}
use Rattle.finite.specs.Search.{search_more}
use Rattle.sheet.specs.Table.{start, due}
use Rattle.sheet.specs.Told.{fault_at, no_fault, tell, plain, or_else, Told}
use Rattle.sheet.specs.Faults.{misplaced_at, misplaced, late_at, late, early_at, early}
use Rattle.layout.specs.Starts.{start_fault, starts_fault}

-- neither 14 nor 15
neither : (a b : Bool) → (or_else (tell 14 (plain a)) (tell 15 (plain b))).number ≡ 0 → (a ≡ false) × (b ≡ false)
unfolding or_else
neither true b e = let wrong : ⊥ = omega arith in absurd wrong
neither false true e = let wrong : ⊥ = omega arith in absurd wrong
neither false false e = (refl, refl)

pub start_right : (at due : ℕ) (r : Told) → r ≡ start_fault at due → r.number ≡ 0 → at ≡ due
unfolding start_fault
start_right at due r is e =
    let both = neither (ltb due at) (ltb at due) (ap (λ (f : Told). f.number) (sym is) ∙ e) in
    omega (arith, ltb-false due at both.0, ltb-false at due both.1)

module _ (at due : ℕ) where
  pub is_late : due < at → fault_at 14 0 ≡ start_fault at due
  unfolding start_fault or_else
  is_late l = sym (ap (λ (b : Bool). or_else (tell 14 (plain b)) (tell 15 (plain (ltb at due)))) (lt-ltb due at l))

  pub is_early : at < due → fault_at 15 0 ≡ start_fault at due
  unfolding start_fault or_else
  is_early l =
      sym (ap₂ (λ (a b : Bool). or_else (tell 14 (plain a)) (tell 15 (plain b))) (le-ltb due at (omega arith)) (lt-ltb at due l))

  pub is_right : at ≡ due → no_fault ≡ start_fault at due
  unfolding start_fault or_else
  is_right e =
      sym (ap₂ (λ (a b : Bool). or_else (tell 14 (plain a)) (tell 15 (plain b))) (le-ltb due at (omega arith)) (le-ltb at due (omega arith)))

module _ (s : List ℕ) (e : ℕ) (l : e < 4) (so_far : any e (misplaced_at s) ≡ false) (at ends : ℕ) (is : at ≡ start s e) (end : ends ≡ due s e)
    (r : Told) (told : r ≡ start_fault at ends) where
  -- the first wrong one decides
  decides : ¬ (start s e ≡ due s e) → start_fault (start s e) (due s e) ≡ starts_fault s
  unfolding start_fault starts_fault late early misplaced misplaced_at
  decides apart =
      let wrong = first_found (misplaced_at s) 4 4 e refl l so_far (ap not (ne_eqb (start s e) (due s e) apart)) in
      sym (ap (λ (o : Option ℕ). or_else (tell 14 (plain (late_at s o))) (tell 15 (plain (early_at s o)))) wrong)

  here : r ≡ start_fault (start s e) (due s e)
  here = told ∙ ap₂ start_fault is end

  pub wrong_here : ¬ (r.number ≡ 0) → r ≡ starts_fault s
  wrong_here there =
      here ∙ decides (λ same. there (ap (λ (f : Told). f.number) (here ∙ sym (is_right (start s e) (due s e) same))))

  pub right_here : r.number ≡ 0 → any (e + 1) (misplaced_at s) ≡ false
  unfolding misplaced_at
  right_here clear =
      search_more (misplaced_at s) e so_far (ap not (eq-eqb (start s e) (due s e) (start_right (start s e) (due s e) r here clear)))

-- after three that are right, the last decides, wrong or right
right_all : (s : List ℕ) → any 4 (misplaced_at s) ≡ false → no_fault ≡ starts_fault s
unfolding starts_fault late early misplaced misplaced_at or_else
right_all s none_so_far =
    sym
    (ap
    (λ (o : Option ℕ). or_else (tell 14 (plain (late_at s o))) (tell 15 (plain (early_at s o))))
    (first_done (misplaced_at s) 4 4 4 refl (omega arith) none_so_far))

pub last_here : (s : List ℕ) → any 3 (misplaced_at s) ≡ false → (at ends : ℕ) → at ≡ start s 3 → ends ≡ due s 3 → (r : Told) → r ≡ start_fault at ends → r ≡ starts_fault s
last_here s so_far at ends is end r told =
    ⊎_elim
    (λ clear.
    told ∙ sym (is_right at ends (start_right at ends r told clear)) ∙ right_all s (right_here s 3 (omega arith) so_far at ends is end r told clear))
    (λ there. wrong_here s 3 (omega arith) so_far at ends is end r told (λ clear. omega arith))
    (eq-zero-or-pos r.number)
