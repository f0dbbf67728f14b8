-- Finite sums: of the numbers f i with i below a bound, of those at members of a set, and of those whose index has a given end.
use Rattle.std.specs.Prelude.{ℕ, zero, suc, ◌+◌, ◌*◌, ◌≤◌, ◌<◌, List, Bool, true, false, ◌||◌, ◌≡◌, refl, T, eqb, ltb, get_or}
use Rattle.std.proofs.Math.Nat.{le_step}
use Rattle.std.proofs.Common.{lt-suc_self, not-suc-le-zero, le_refl, add-zero, add-suc, zero-add, lt_irrefl, lt_of_lt_of_le, eq-or-lt_of_le, mul-suc, ⊎_elim, add-one, arith, sym, ap, ap₂, subst, ◌∙◌, eqb→eq, lt→ltb}
use Rattle.std.proofs.Math.Dec.{eqb_refl}
use Rattle.finite.specs.Bounded.{below_suc}

-- x where the test passes, else 0
abbrev pub on : Bool → ℕ → ℕ
on true x = x
on false x = 0

-- f 0 + .. + f (n - 1)
unfoldable pub sum : ℕ → (ℕ → ℕ) → ℕ
sum zero f = 0
sum (suc n) f = sum n f + f n

-- the sum of f over the members of S that are below n
unfoldable pub over : ℕ → (ℕ → Bool) → (ℕ → ℕ) → ℕ
over n S f = sum n (λ v. on (S v) (f v))

-- the sum of x over the indices below m whose end e is v
unfoldable pub at_end : ℕ → (ℕ → ℕ) → (ℕ → ℕ) → ℕ → ℕ
at_end m e x v = sum m (λ i. on (eqb (e i) v) (x i))

pub on_yes : (b : Bool) (x : ℕ) → T b → on b x ≡ x
on_yes true x h = refl
on_yes false x h = absurd h

pub on_le : (b : Bool) (x : ℕ) → on b x ≤ x
on_le true x = le_refl x
on_le false x = omega arith

-- a larger set has the larger share
pub on_mono : (b c : Bool) (x : ℕ) → (T b → T c) → on b x ≤ on c x
on_mono true true x h = le_refl x
on_mono true false x h = absurd (h tt)
on_mono false c x h = omega arith

pub sum_ext : (n : ℕ) (f g : ℕ → ℕ) → ((i : ℕ) → i < n → f i ≡ g i) → sum n f ≡ sum n g
unfolding sum
sum_ext zero f g h = refl
sum_ext (suc n) f g h = ap₂ ◌+◌ (sum_ext n f g (λ i l. h i (le_step l))) (h n (lt-suc_self n))

pub sum_mono : (n : ℕ) (f g : ℕ → ℕ) → ((i : ℕ) → i < n → f i ≤ g i) → sum n f ≤ sum n g
unfolding sum
sum_mono zero f g h = le_refl 0
sum_mono (suc n) f g h = omega (arith, sum_mono n f g (λ i l. h i (le_step l)), h n (lt-suc_self n))

-- strictly less at one index
pub sum_strict : (n : ℕ) (f g : ℕ → ℕ) → ((i : ℕ) → i < n → f i ≤ g i) → (k : ℕ) → k < n → f k < g k → sum n f < sum n g
unfolding sum
sum_strict zero f g h k l s = absurd (not-suc-le-zero l)
sum_strict (suc n) f g h k l s =
    below_suc
    n
    k
    l
    (λ below. omega (arith, sum_strict n f g (λ i j. h i (le_step j)) k below s, h n (lt-suc_self n)))
    (λ e. omega (arith, sum_mono n f g (λ i j. h i (le_step j)), subst (λ (j : ℕ). f j < g j) e s))

pub sum_add : (n : ℕ) (f g : ℕ → ℕ) → sum n (λ i. f i + g i) ≡ sum n f + sum n g
unfolding sum
sum_add zero f g = refl
sum_add (suc n) f g = omega (arith, sum_add n f g)

pub sum_zero : (n : ℕ) (f : ℕ → ℕ) → ((i : ℕ) → i < n → f i ≡ 0) → sum n f ≡ 0
unfolding sum
sum_zero zero f h = refl
sum_zero (suc n) f h = omega (arith, sum_zero n f (λ i l. h i (le_step l)), h n (lt-suc_self n))

-- n terms of at most k each
pub sum_most : (n k : ℕ) (f : ℕ → ℕ) → ((i : ℕ) → i < n → f i ≤ k) → sum n f ≤ k * n
unfolding sum
sum_most zero k f h = omega arith
sum_most (suc n) k f h =
    omega (arith, mul-suc k n, sum_most n k f (λ i l. h i (le_step l)), h n (lt-suc_self n))

-- one term is at most the sum
pub sum_term : (n : ℕ) (f : ℕ → ℕ) (k : ℕ) → k < n → f k ≤ sum n f
unfolding sum
sum_term zero f k l = absurd (not-suc-le-zero l)
sum_term (suc n) f k l =
    below_suc n k l (λ below. omega (arith, sum_term n f k below)) (λ e. omega (arith, ap f e))

pub on_no : (b : Bool) (x : ℕ) → (T b → ⊥) → on b x ≡ 0
on_no true x h = absurd (h tt)
on_no false x h = refl

-- a sum with one term
pub sum_one : (n k : ℕ) (f : ℕ → ℕ) → k < n → sum n (λ i. on (eqb k i) (f i)) ≡ f k
unfolding sum
sum_one zero k f l = absurd (not-suc-le-zero l)
sum_one (suc n) k f l =
    below_suc
    n
    k
    l
    (λ below. omega (arith, sum_one n k f below, on_no (eqb k n) (f n) (λ t. omega (arith, eqb→eq k n t))))
    (λ e.
    omega (
      arith,
      sum_zero n (λ i. on (eqb k i) (f i)) (λ i j. on_no (eqb k i) (f i) (λ t. omega (arith, eqb→eq k i t))),
      on_yes (eqb k n) (f n) (subst (λ (j : ℕ). T (eqb k j)) e (eqb_refl k)),
      ap f e,
    ))

pub on_zero : (b : Bool) → on b 0 ≡ 0
on_zero true = refl
on_zero false = refl

on_add : (b : Bool) (x y : ℕ) → on b (x + y) ≡ on b x + on b y
on_add true x y = refl
on_add false x y = refl

pub on_swap : (b c : Bool) (x : ℕ) → on b (on c x) ≡ on c (on b x)
on_swap true c x = refl
on_swap false true x = refl
on_swap false false x = refl

-- The two ways to add up x over the indices whose end is in S: end by end, or index by index.
pub over_ends : (n m : ℕ) (S : ℕ → Bool) (e x : ℕ → ℕ) → ((i : ℕ) → i < m → e i < n) → over n S (at_end m e x) ≡ sum m (λ i. on (S (e i)) (x i))
unfolding over at_end sum
over_ends n zero S e x h = sum_zero n (λ v. on (S v) 0) (λ v l. on_zero (S v))
over_ends n (suc m) S e x h =
    sum_ext n _ (λ v. on (S v) (at_end m e x v) + on (eqb (e m) v) (on (S v) (x m)))
    (λ v l. on_add (S v) (at_end m e x v) (on (eqb (e m) v) (x m)) ∙ ap (λ (y : ℕ). on (S v) (at_end m e x v) + y) (on_swap (S v) (eqb (e m) v) (x m)))
    ∙ sum_add n (λ v. on (S v) (at_end m e x v)) (λ v. on (eqb (e m) v) (on (S v) (x m)))
    ∙ ap₂ ◌+◌ (over_ends n m S e x (λ i l. h i (le_step l))) (sum_one n (e m) (λ v. on (S v) (x m)) (h m (lt-suc_self m)))

pub over_add : (n : ℕ) (S : ℕ → Bool) (f g : ℕ → ℕ) → over n S (λ v. f v + g v) ≡ over n S f + over n S g
unfolding over
over_add n S f g = sum_ext n _ _ (λ v l. on_add (S v) (f v) (g v)) ∙ sum_add n (λ v. on (S v) (f v)) (λ v. on (S v) (g v))

-- two sets without a common member
pub over_either : (n : ℕ) (S R : ℕ → Bool) (f : ℕ → ℕ) → ((v : ℕ) → T (S v) → T (R v) → ⊥) → over n (λ v. S v || R v) f ≡ over n S f + over n R f
unfolding over
over_either n S R f apart = sum_ext n _ _ (λ v l. split (S v) (R v) (f v) (apart v)) ∙ sum_add n (λ v. on (S v) (f v)) (λ v. on (R v) (f v))
  where
    split : (b c : Bool) (x : ℕ) → (T b → T c → ⊥) → on (b || c) x ≡ on b x + on c x
    split true true x h = absurd (h tt tt)
    split true false x h = sym (add-zero x)
    split false c x h = sym (zero-add (on c x))

pub over_mono : (n : ℕ) (S R : ℕ → Bool) (f : ℕ → ℕ) → ((v : ℕ) → v < n → T (S v) → T (R v)) → over n S f ≤ over n R f
unfolding over
over_mono n S R f h = sum_mono n _ _ (λ v l. on_mono (S v) (R v) (f v) (h v l))

pub over_all : (n : ℕ) (S : ℕ → Bool) (f : ℕ → ℕ) → over n S f ≤ sum n f
unfolding over
over_all n S f = sum_mono n _ _ (λ v l. on_le (S v) (f v))

-- all numbers below n
pub over_full : (n : ℕ) (f : ℕ → ℕ) → over n (λ v. ltb v n) f ≡ sum n f
unfolding over
over_full n f = sum_ext n _ f (λ v l. on_yes (ltb v n) (f v) (lt→ltb v n l))

-- rows first or columns first
pub sum_swap : (n m : ℕ) (f : ℕ → ℕ → ℕ) → sum n (λ i. sum m (λ j. f i j)) ≡ sum m (λ j. sum n (λ i. f i j))
unfolding sum
sum_swap zero m f = sym (sum_zero m (λ j. 0) (λ j l. refl))
sum_swap (suc n) m f = ap (λ (z : ℕ). z + sum m (λ j. f n j)) (sum_swap n m f) ∙ sym (sum_add m (λ j. sum n (λ i. f i j)) (λ j. f n j))

-- the first a terms and the b after them
pub sum_parts : (a b : ℕ) (f : ℕ → ℕ) → sum (a + b) f ≡ sum a f + sum b (λ j. f (a + j))
unfolding sum
sum_parts a zero f = omega (arith, ap (λ (n : ℕ). sum n f) (add-zero a))
sum_parts a (suc b) f = omega (arith, ap (λ (n : ℕ). sum n f) (add-suc a b), sum_parts a b f)

-- the first term and the n after it
pub sum_first : (n : ℕ) (f : ℕ → ℕ) → sum (suc n) f ≡ f 0 + sum n (λ i. f (suc i))
unfolding sum
sum_first zero f = omega arith
sum_first (suc n) f = omega (arith, sum_first n f)

-- equal sums of terms none of which is above its partner: equal terms
pub sum_tight : (n : ℕ) (f g : ℕ → ℕ) → ((i : ℕ) → i < n → f i ≤ g i) → sum n g ≤ sum n f → (k : ℕ) → k < n → f k ≡ g k
sum_tight n f g h e k l =
    ⊎_elim
    (λ same. same)
    (λ less. absurd (lt_irrefl (sum n f) (lt_of_lt_of_le (sum_strict n f g h k l less) e)))
    (eq-or-lt_of_le (h k l))

pub on_sum : (b : Bool) (n : ℕ) (f : ℕ → ℕ) → on b (sum n f) ≡ sum n (λ i. on b (f i))
on_sum true n f = refl
on_sum false n f = sym (sum_zero n (λ i. 0) (λ i l. refl))

-- the sum of the first n numbers of a list
unfoldable pub sum_of : List ℕ → ℕ → ℕ
sum_of xs n = sum n (λ i. get_or xs i 0)

-- What a loop knows that adds one term after another.
pub sum_start : (f : ℕ → ℕ) → sum 0 f ≡ 0
unfolding sum
sum_start f = refl

pub sum_more : (n : ℕ) (f : ℕ → ℕ) → sum (n + 1) f ≡ sum n f + f n
unfolding sum
sum_more n f = rw add-one refl

pub sum_of_start : (xs : List ℕ) → sum_of xs 0 ≡ 0
unfolding sum_of
sum_of_start xs = sum_start _

pub sum_of_more : (xs : List ℕ) (i : ℕ) → sum_of xs (i + 1) ≡ sum_of xs i + get_or xs i 0
unfolding sum_of
sum_of_more xs i = sum_more i (λ k. get_or xs k 0)

pub sum_of_upto : (xs : List ℕ) (k n : ℕ) → k ≤ n → sum_of xs k ≤ sum_of xs n
unfolding sum_of sum
sum_of_upto xs k zero l =
    ⊎_elim (λ e. omega (arith, ap (λ (z : ℕ). sum_of xs z) e)) (λ h. absurd (not-suc-le-zero h)) (eq-or-lt_of_le l)
sum_of_upto xs k (suc n) l =
    ⊎_elim
    (λ e. omega (arith, ap (λ (z : ℕ). sum_of xs z) e))
    (λ h. omega (arith, sum_of_upto xs k n (omega (arith, h))))
    (eq-or-lt_of_le l)

pub end_start : (e x : ℕ → ℕ) (v : ℕ) → at_end 0 e x v ≡ 0
unfolding at_end
end_start e x v = sum_start _

pub end_more : (m : ℕ) (e x : ℕ → ℕ) (v : ℕ) → at_end (m + 1) e x v ≡ at_end m e x v + on (eqb (e m) v) (x m)
unfolding at_end
end_more m e x v = sum_more m _

-- k more at one index: for its end
pub at_end_more : (m : ℕ) (e x z : ℕ → ℕ) (i k : ℕ) → i < m → ((j : ℕ) → j < m → z j ≡ x j + on (eqb i j) k)
    → (v : ℕ) → at_end m e z v ≡ at_end m e x v + on (eqb (e i) v) k
unfolding at_end
at_end_more m e x z i k l more v =
    sum_ext m _ (λ j. on (eqb (e j) v) (x j) + on (eqb i j) (on (eqb (e j) v) k))
    (λ j h. ap (on (eqb (e j) v)) (more j h) ∙ on_add (eqb (e j) v) (x j) (on (eqb i j) k) ∙ ap (λ (n : ℕ). on (eqb (e j) v) (x j) + n) (on_swap (eqb (e j) v) (eqb i j) k))
    ∙ sum_add m (λ j. on (eqb (e j) v) (x j)) (λ j. on (eqb i j) (on (eqb (e j) v) k))
    ∙ ap (λ (n : ℕ). sum m (λ j. on (eqb (e j) v) (x j)) + n) (sum_one m i (λ j. on (eqb (e j) v) k) l)

-- k more at (u, w): in row u, and in column w
pub sum_row_more : (n u w k a : ℕ) (f : ℕ → ℕ) → w < n → sum n (λ b. f b + on (eqb u a) (on (eqb w b) k)) ≡ sum n f + on (eqb u a) k
sum_row_more n u w k a f l =
    sum_add n f (λ b. on (eqb u a) (on (eqb w b) k))
    ∙ ap (λ (z : ℕ). sum n f + z) (sym (on_sum (eqb u a) n (λ b. on (eqb w b) k)) ∙ ap (on (eqb u a)) (sum_one n w (λ b. k) l))

pub sum_column_more : (n u w k b : ℕ) (f : ℕ → ℕ) → u < n → sum n (λ a. f a + on (eqb u a) (on (eqb w b) k)) ≡ sum n f + on (eqb w b) k
sum_column_more n u w k b f l =
    sum_add n f (λ a. on (eqb u a) (on (eqb w b) k)) ∙ ap (λ (z : ℕ). sum n f + z) (sum_one n u (λ a. on (eqb w b) k) l)
