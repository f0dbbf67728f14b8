-- How many numbers below a bound are in a set.
use Rattle.std.specs.Prelude.{ℕ, zero, suc, ◌+◌, ◌≤◌, ◌<◌, Bool, ◌≡◌, refl, T, eqb, ltb}
use Rattle.std.proofs.Common.{add_comm, eq-or-lt_of_le, lt-suc_self, arith, ⊎_elim, sym, ap, subst, ◌∙◌, eqb→eq, ltb→lt, nltb→le}
use Rattle.std.proofs.Math.Nat.{le_step}
use Rattle.std.proofs.Math.Facts.{yes_eqb}
use Rattle.finite.specs.Bounded.{decide, same}
use Rattle.finite.specs.Subset.{Set, insert}
use Rattle.finite.specs.Sum.{on, sum, over, on_yes, on_no, over_all, over_either, over_mono, sum_ext, sum_more, sum_one, sum_term, sum_zero}

unfoldable pub count : ℕ → Set → ℕ
count n S = over n S (λ v. 1)

pub count_start : (S : Set) → count 0 S ≡ 0
unfolding count over sum
count_start S = refl

pub count_more : (n : ℕ) (S : Set) → count (n + 1) S ≡ count n S + on (S n) 1
unfolding count over
count_more n S = sum_more n (λ v. on (S v) 1)

pub count_none : (n : ℕ) (S : Set) → ((v : ℕ) → v < n → T (S v) → ⊥) → count n S ≡ 0
unfolding count over
count_none n S none = sum_zero n (λ v. on (S v) 1) (λ v l. on_no (S v) 1 (none v l))

pub none_count : (n : ℕ) (S : Set) → count n S ≡ 0 → (v : ℕ) → v < n → T (S v) → ⊥
unfolding count over
none_count n S none v l t = omega (arith, none, sum_term n (λ v. on (S v) 1) v l, on_yes (S v) 1 t)

pub ones : (n : ℕ) → sum n (λ v. 1) ≡ n
unfolding sum
ones zero = refl
ones (suc n) = omega (arith, ones n)

pub count_full : (n : ℕ) (S : Set) → ((v : ℕ) → v < n → T (S v)) → count n S ≡ n
unfolding count over
count_full n S full = sum_ext n _ _ (λ v l. on_yes (S v) 1 (full v l)) ∙ ones n

pub count_le : (n : ℕ) (S : Set) → count n S ≤ n
unfolding count
count_le n S = omega (arith, over_all n S (λ v. 1), ones n)

-- a new member
pub count_insert : (n k : ℕ) (S : Set) → k < n → (T (S k) → ⊥) → count n (insert k S) ≡ count n S + 1
unfolding count over
count_insert n k S l new =
    over_either n (λ v. eqb v k) S (λ v. 1) (λ v e t. new (subst (λ (x : ℕ). T (S x)) (eqb→eq v k e) t))
    ∙ ap (λ (x : ℕ). x + over n S (λ v. 1)) (sum_ext n _ _ (λ v j. ap (λ (b : Bool). on b 1) (turned v)) ∙ sum_one n k (λ v. 1) l)
    ∙ add_comm 1 (over n S (λ v. 1))
  where
    turned : (v : ℕ) → eqb v k ≡ eqb k v
    turned v = same (eqb v k) (eqb k v) (λ t. yes_eqb (sym (eqb→eq v k t))) (λ t. yes_eqb (sym (eqb→eq k v t)))

-- a set that lacks a number below n has fewer than n
pub count_room : (n k : ℕ) (S : Set) → k < n → (T (S k) → ⊥) → count n S < n
count_room n k S l new = omega (arith, count_insert n k S l new, count_le n (insert k S))

pub count_within_lem : (m n : ℕ) (S : Set) → ((v : ℕ) → T (S v) → v < n) → count m S ≤ n
unfolding count over sum
count_within_lem zero n S below = omega arith
count_within_lem (suc m) n S below =
    ⊎_elim
    (λ l. omega (arith, count_le (suc m) S, ltb→lt m n l))
    (λ l. omega (arith, count_within_lem m n S below, on_no (S m) 1 (λ t. omega (arith, below m t, nltb→le m n l))))
    (decide (ltb m n))

pub count_mono : (n : ℕ) (S R : Set) → ((v : ℕ) → v < n → T (S v) → T (R v)) → count n S ≤ count n R
unfolding count
count_mono n S R h = over_mono n S R (λ v. 1) h

pub count_ext : (n : ℕ) (S R : Set) → ((v : ℕ) → v < n → S v ≡ R v) → count n S ≡ count n R
unfolding count over
count_ext n S R h = sum_ext n _ _ (λ v l. ap (λ (b : Bool). on b 1) (h v l))

-- no member from n on
pub count_below : (m n : ℕ) (S : Set) → n ≤ m → ((v : ℕ) → v < m → T (S v) → v < n) → count m S ≡ count n S
unfolding count over sum
count_below zero n S l below = let none : zero ≡ n = omega arith in ap (λ (k : ℕ). count k S) none
count_below (suc m) n S l below =
    ⊎_elim
    (λ e. ap (λ (k : ℕ). count k S) (sym e))
    (λ less.
    omega (
      arith,
      count_below m n S (omega (arith, less)) (λ v j. below v (le_step j)),
      on_no (S m) 1 (λ t. omega (arith, below m (lt-suc_self m) t, less)),
    ))
    (eq-or-lt_of_le l)
