-- Tests of all numbers below a bound, and of some number below it.
use Rattle.std.specs.Prelude.{ℕ, zero, suc, ◌<◌, Bool, true, false, not, ◌&&◌, ◌||◌, ◌⊎◌, ◌≡◌, refl, T}
use Rattle.std.proofs.Common.{eq-or-lt_of_le, le_of_suc-le-suc, lt-suc_self, not-suc-le-zero, inl, inr, ⊎_elim, ap₂, subst, sym}
use Rattle.std.proofs.Math.Nat.{le_step}
use Rattle.std.proofs.Math.Facts.{and_yes, yes_and, or_yes}

-- f holds of every number below n
unfoldable pub all : ℕ → (ℕ → Bool) → Bool
all zero f = true
all (suc n) f = all n f && f n

-- f holds of some number below n
unfoldable pub any : ℕ → (ℕ → Bool) → Bool
any zero f = false
any (suc n) f = any n f || f n

-- "if x then y", as a test
infixr 25 ◌⇒◌
abbrev pub ◌⇒◌ : Bool → Bool → Bool
x ⇒ y = not x || y

pub imp_yes : (x y : Bool) → T (x ⇒ y) → T x → T y
imp_yes true y h t = h
imp_yes false y h t = absurd t

pub yes_imp : (x y : Bool) → (T x → T y) → T (x ⇒ y)
yes_imp true y h = h tt
yes_imp false y h = tt

pub yes_or_left : (x y : Bool) → T x → T (x || y)
yes_or_left true y h = tt
yes_or_left false y h = absurd h

pub yes_or_right : (x y : Bool) → T y → T (x || y)
yes_or_right true y h = tt
yes_or_right false y h = h

-- a test passes or fails
pub decide : (x : Bool) → T x ⊎ T (not x)
decide true = inl tt
decide false = inr tt

-- two tests that pass alike are equal
pub same : (x y : Bool) → (T x → T y) → (T y → T x) → x ≡ y
same true true h k = refl
same true false h k = absurd (h tt)
same false true h k = absurd (k tt)
same false false h k = refl

-- the numbers below suc n are n and those below n
pub below_suc : {X : Type 0} (n i : ℕ) → i < suc n → (i < n → X) → (i ≡ n → X) → X
below_suc n i l lower same = ⊎_elim same lower (eq-or-lt_of_le (le_of_suc-le-suc l))

pub all_yes : (n : ℕ) (f : ℕ → Bool) → T (all n f) → (i : ℕ) → i < n → T (f i)
unfolding all
all_yes zero f h i l = absurd (not-suc-le-zero l)
all_yes (suc n) f h i l =
    below_suc
    n
    i
    l
    (λ k. all_yes n f (and_yes (all n f) (f n) h).0 i k)
    (λ e. subst (λ (j : ℕ). T (f j)) (sym e) (and_yes (all n f) (f n) h).1)

pub yes_all : (n : ℕ) (f : ℕ → Bool) → ((i : ℕ) → i < n → T (f i)) → T (all n f)
unfolding all
yes_all zero f h = tt
yes_all (suc n) f h = yes_and (all n f) (f n) (yes_all n f (λ i l. h i (le_step l))) (h n (lt-suc_self n))

pub any_yes : (n : ℕ) (f : ℕ → Bool) → T (any n f) → (i : ℕ) × (i < n) × T (f i)
unfolding any
any_yes zero f h = absurd h
any_yes (suc n) f h =
    ⊎_elim
    (λ k. let w = any_yes n f k in (w.0, le_step w.1, w.2))
    (λ k. (n, lt-suc_self n, k))
    (or_yes (any n f) (f n) h)

-- tests that agree below n
pub any_ext : (n : ℕ) (f g : ℕ → Bool) → ((i : ℕ) → i < n → f i ≡ g i) → any n f ≡ any n g
unfolding any
any_ext zero f g h = refl
any_ext (suc n) f g h = ap₂ ◌||◌ (any_ext n f g (λ i l. h i (le_step l))) (h n (lt-suc_self n))

pub yes_any : (n : ℕ) (f : ℕ → Bool) (i : ℕ) → i < n → T (f i) → T (any n f)
unfolding any
yes_any zero f i l h = absurd (not-suc-le-zero l)
yes_any (suc n) f i l h =
    below_suc
    n
    i
    l
    (λ k. yes_or_left (any n f) (f n) (yes_any n f i k h))
    (λ e. yes_or_right (any n f) (f n) (subst (λ (j : ℕ). T (f j)) e h))
