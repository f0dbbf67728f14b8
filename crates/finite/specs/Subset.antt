-- The sets of numbers below n, each given by the test of its members: the greatest value over all of them, and what holds of each.
use Rattle.std.specs.Prelude.{ℕ, zero, suc, ◌≤◌, ◌<◌, max, Bool, false, not, ◌&&◌, ◌||◌, ◌⊎◌, ◌≡◌, refl, T, eqb, leb}
use Rattle.std.proofs.Common.{le_of_suc-le-suc, not-suc-le-zero, arith, inl, inr, ⊎_elim, sym, ap, subst, ◌∙◌, eqb→eq, T_not, leb→le}
use Rattle.std.proofs.Math.Nat.{le_step, max-eq_right}
use Rattle.std.proofs.Math.Numerals.{lt_of_le_of_ne}
use Rattle.std.proofs.Math.Path.{fun_ext}
use Rattle.std.proofs.Math.Dec.{eqb_refl, nleb→lt}
use Rattle.std.proofs.Math.Facts.{and_yes, yes_and, or_yes}
use Rattle.finite.specs.Bounded.{decide, same, yes_or_left, yes_or_right}

-- a set of numbers, by the test of its members
abbrev pub Set : Type 0
Set = ℕ → Bool

abbrev pub empty : Set
empty v = false

-- D with k
abbrev pub insert : ℕ → Set → Set
insert k D v = eqb v k || D v

-- the greatest f D over all sets D of numbers below n
unfoldable pub greatest : ℕ → (Set → ℕ) → ℕ
greatest zero f = f empty
greatest (suc n) f = max (greatest n f) (greatest n (λ D. f (insert n D)))

-- f holds of every set of numbers below n
unfoldable pub every : ℕ → (Set → Bool) → Bool
every zero f = f empty
every (suc n) f = every n f && every n (λ D. f (insert n D))

-- all members of D are below n
pub record Within (n : ℕ) (D : Set) : Type 0 where
  pub below : (v : ℕ) → T (D v) → v < n

-- two sets with the same members are equal
pub set_ext : (D E : Set) → ((v : ℕ) → T (D v) → T (E v)) → ((v : ℕ) → T (E v) → T (D v)) → D ≡ E
set_ext D E h k = fun_ext (λ v. same (D v) (E v) (h v) (k v))

remove : ℕ → Set → Set
remove k D v = not (eqb v k) && D v

within_zero : (D : Set) → Within 0 D → D ≡ empty
within_zero D w = set_ext D empty (λ v t. not-suc-le-zero (w.below v t)) (λ v t. absurd t)

within_insert : (n : ℕ) (D : Set) → Within n D → Within (suc n) (insert n D)
within_insert n D w = record { below = λ v t. ⊎_elim (λ e. omega (arith, eqb→eq v n e)) (λ d. le_step (w.below v d)) (or_yes (eqb v n) (D v) t) }

-- a set of numbers below suc n has n, and is a smaller one with n inserted, or is a set of numbers below n
split : (n : ℕ) (D : Set) → Within (suc n) D → ((E : Set) × Within n E × (D ≡ insert n E)) ⊎ Within n D
unfolding remove
split n D w = ⊎_elim (λ t. inl (has t)) (λ t. inr (lacks t)) (decide (D n))
  where
    strict : (v : ℕ) → T (D v) → ¬ (v ≡ n) → v < n
    strict v t ne = lt_of_le_of_ne (le_of_suc-le-suc (w.below v t)) ne

    lacks : T (not (D n)) → Within n D
    lacks t = record { below = λ v d. strict v d (λ e. T_not (D n) t (subst (λ (j : ℕ). T (D j)) e d)) }

    has : T (D n) → (E : Set) × Within n E × (D ≡ insert n E)
    has t = (
      remove n D,
      record { below = λ v r. strict v (and_yes (not (eqb v n)) (D v) r).1 (λ e. T_not (eqb v n) (and_yes (not (eqb v n)) (D v) r).0 (subst (λ (j : ℕ). T (eqb v j)) e (eqb_refl v))) },
      set_ext
          D
          (insert n (remove n D))
          (λ v d.
          ⊎_elim
          (λ e. yes_or_left (eqb v n) (remove n D v) e)
          (λ e. yes_or_right (eqb v n) (remove n D v) (yes_and (not (eqb v n)) (D v) e d))
          (decide (eqb v n)))
          (λ v r.
          ⊎_elim
          (λ e. subst (λ (j : ℕ). T (D j)) (sym (eqb→eq v n e)) t)
          (λ e. (and_yes (not (eqb v n)) (D v) e).1)
          (or_yes (eqb v n) (remove n D v) r)),
    )

pub greatest_bounds : (n : ℕ) (f : Set → ℕ) (D : Set) → Within n D → f D ≤ greatest n f
unfolding greatest
greatest_bounds zero f D w = omega (arith, ap f (within_zero D w))
greatest_bounds (suc n) f D w =
    ⊎_elim
    (λ h. omega (arith, ap f h.2, greatest_bounds n (λ E. f (insert n E)) h.0 h.1))
    (λ h. omega (arith, greatest_bounds n f D h))
    (split n D w)

max_cases : (a b : ℕ) → (max a b ≡ a) ⊎ (max a b ≡ b)
max_cases a b = ⊎_elim (λ t. inr (max-eq_right (leb→le a b t))) (λ t. inl (omega (arith, nleb→lt a b t))) (decide (leb a b))

pub greatest_attained : (n : ℕ) (f : Set → ℕ) → (D : Set) × Within n D × (f D ≡ greatest n f)
unfolding greatest
greatest_attained zero f = (empty, record { below = λ v t. absurd t }, refl)
greatest_attained (suc n) f =
    let l = greatest_attained n f in
    let r = greatest_attained n (λ D. f (insert n D)) in
    ⊎_elim
    (λ e. (l.0, record { below = λ v t. le_step (l.1.below v t) }, l.2 ∙ sym e))
    (λ e. (insert n r.0, within_insert n r.0 r.1, r.2 ∙ sym e))
    (max_cases (greatest n f) (greatest n (λ D. f (insert n D))))

pub every_yes : (n : ℕ) (f : Set → Bool) → T (every n f) → (D : Set) → Within n D → T (f D)
unfolding every
every_yes zero f h D w = subst (λ (E : Set). T (f E)) (sym (within_zero D w)) h
every_yes (suc n) f h D w =
    let both = and_yes (every n f) (every n (λ E. f (insert n E))) h in
    ⊎_elim
    (λ k. subst (λ (E : Set). T (f E)) (sym k.2) (every_yes n (λ E. f (insert n E)) both.1 k.0 k.1))
    (λ k. every_yes n f both.0 D k)
    (split n D w)

pub yes_every : (n : ℕ) (f : Set → Bool) → ((D : Set) → Within n D → T (f D)) → T (every n f)
unfolding every
yes_every zero f h = h empty (record { below = λ v t. absurd t })
yes_every (suc n) f h =
    yes_and
    (every n f)
    (every n (λ D. f (insert n D)))
    (yes_every n f (λ D w. h D (record { below = λ v t. le_step (w.below v t) })))
    (yes_every n (λ D. f (insert n D)) (λ D w. h (insert n D) (within_insert n D w)))

pub greatest_least : (n : ℕ) (f : Set → ℕ) (M : ℕ) → ((D : Set) → Within n D → f D ≤ M) → greatest n f ≤ M
greatest_least n f M h = let w = greatest_attained n f in omega (arith, h w.0 w.1, w.2)
