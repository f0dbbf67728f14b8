-- A chain of tests that returns the first fault: what a test came to is so of the sheet that it was made of, and what is left to tell where the tests so
-- far found nothing.
use Rattle.std.specs.Prelude.{ℕ, Bool, List, [], ◌∷◌, ◌++◌, ◌≡◌, refl}
use Rattle.std.proofs.Common.{eq-zero-or-pos, arith, ⊎_elim, sym, ap, ◌∙◌}
use Rattle.sheet.specs.Faults.{Finder, first_fault}
use Rattle.sheet.specs.Told.{no_fault, tell, or_else, else_first, else_next, Told}

pub told : {x y b : Bool} → x ≡ y → x ≡ b → y ≡ b
told is came = sym is ∙ came

module _ {all f r : Told} (g : Told) (so_far : all ≡ or_else f g) (is : r ≡ f) where
  -- a part found something, and that is told
  pub here : ¬ (r.number ≡ 0) → r ≡ all
  here there = sym (so_far ∙ ap (λ (h : Told). or_else h g) (sym is) ∙ else_first r g there)

  -- a part found nothing, and leaves it to those that follow
  pub later : r.number ≡ 0 → all ≡ g
  later clear = so_far ∙ ap (λ (h : Told). or_else h g) (sym is) ∙ else_next r g clear

-- of three faults, the first
else_assoc : (f g h : Told) → or_else f (or_else g h) ≡ or_else (or_else f g) h
else_assoc f g h =
    ⊎_elim
    (λ clear. else_next f (or_else g h) clear ∙ sym (ap (λ (x : Told). or_else x h) (else_next f g clear)))
    (λ there.
    let some : ¬ (f.number ≡ 0) = λ z. omega arith in
    else_first f (or_else g h) some ∙ sym (ap (λ (x : Told). or_else x h) (else_first f g some) ∙ else_first f h some))
    (eq-zero-or-pos f.number)

-- two lists of faults, one after the other
pub first_both : (fs gs : List (ℕ × Finder)) (s : List ℕ) → first_fault (fs ++ gs) s ≡ or_else (first_fault fs s) (first_fault gs s)
unfolding first_fault
first_both [] gs s = sym (else_next no_fault (first_fault gs s) refl)
first_both (f ∷ fs) gs s =
    ap (or_else (tell f.0 (f.1 s))) (first_both fs gs s) ∙ else_assoc (tell f.0 (f.1 s)) (first_fault fs s) (first_fault gs s)
