-- How many pairs stand in a relation, by another one: more, none, all, and each counted both ways round.
use Prim.Native.Nat.{ℕ, zero, suc, ◌+◌, ◌-◌, ◌*◌, ◌/◌, ◌≤◌, ◌<◌}
use Rattle.std.proofs.Math.Nat.{le_step, mul_comm, mul-suc}
use Rattle.std.proofs.Common.{lt-suc_self}
use native.Mathlib.Omega.{arith}
use Rattle.std.specs.Prelude.{Bool, true, false, not, ◌&&◌, ◌≡◌, T}
use Rattle.std.proofs.Math.Path.{refl}
use Rattle.finite.specs.Count.{count, count_ext, ones}
use Rattle.finite.specs.Sum.{on, sum, over, on_no, on_yes, over_mono, sum_add, sum_ext, sum_mono, sum_term, sum_zero}
use Rattle.finite.specs.Pairs.{count_pairs, neither}

pub pairs_mono : (n : ℕ) (R S : ℕ → ℕ → Bool) → ((u v : ℕ) → u < v → v < n → T (R u v) → T (S u v)) → count_pairs n R ≤ count_pairs n S
unfolding count_pairs count
pairs_mono n R S h = sum_mono n _ _ (λ v l. over_mono v (λ u. R u v) (λ u. S u v) (λ u. 1) (λ u k. h u v k l))

pub pairs_none : (n : ℕ) (R : ℕ → ℕ → Bool) → ((u v : ℕ) → u < v → v < n → T (R u v) → ⊥) → count_pairs n R ≡ 0
unfolding count_pairs count over
pairs_none n R none = sum_zero n _ (λ v l. sum_zero v _ (λ u k. on_no (R u v) 1 (none u v k l)))

pub none_pairs : (n : ℕ) (R : ℕ → ℕ → Bool) → count_pairs n R ≡ 0 → (u v : ℕ) → u < v → v < n → T (R u v) → ⊥
unfolding count_pairs count over
none_pairs n R e u v k l t =
    omega (arith, sum_term n (λ w. sum w (λ x. on (R x w) 1)) v l, sum_term v (λ x. on (R x v) 1) u k, on_yes (R u v) 1 t)

one_of_three : (a b : Bool) → (T a → T b → ⊥) → on (not a && not b) 1 + (on a 1 + on b 1) ≡ 1
one_of_three true true h = absurd (h tt tt)
one_of_three true false h = refl
one_of_three false true h = refl
one_of_three false false h = refl

module _ (B : ℕ → ℕ → Bool) where
  -- how many pairs B holds of, the one way round or the other
  ordered : ℕ → ℕ
  ordered n = sum n (λ v. count n (λ u. B u v))

  -- one number more, which isn't B of itself
  ordered_more : (n : ℕ) → (T (B n n) → ⊥) → ordered (suc n) ≡ ordered n + (count n (λ u. B u n) + count n (λ v. B n v))
  unfolding ordered count over sum
  ordered_more n none =
      omega (arith, sum_add n (λ v. sum n (λ u. on (B u v) 1)) (λ v. on (B n v) 1), on_no (B n n) 1 none)

  -- the numbers below n, by how they stand to it
  by_order : (n : ℕ) → ((u : ℕ) → u < n → T (B u n) → T (B n u) → ⊥) → count n (λ u. neither B u n) + (count n (λ u. B u n) + count n (λ v. B n v)) ≡ n
  unfolding count over
  by_order n apart =
      omega (
        arith,
        sum_add n (λ u. on (B u n) 1) (λ u. on (B n u) 1),
        sum_add n (λ u. on (neither B u n) 1) (λ u. on (B u n) 1 + on (B n u) 1),
        sum_ext n (λ u. on (neither B u n) 1 + (on (B u n) 1 + on (B n u) 1)) (λ u. 1) (λ u l. one_of_three (B u n) (B n u) (apart u l)),
        ones n,
      )

  -- Where no two are B of each other, those of which neither is B of the other and those of which one is make all pairs.
  pub pairs_left : (n : ℕ) → ((u v : ℕ) → u < n → v < n → T (B u v) → T (B v u) → ⊥) → 2 * (count_pairs n (neither B) + sum n (λ v. count n (λ u. B u v))) + n ≡ n * n
  unfolding count_pairs sum ordered
  pairs_left zero apart = refl
  pairs_left (suc n) apart =
      omega (
        arith,
        pairs_left n (λ u v k l. apart u v (le_step k) (le_step l)),
        ordered_more n (λ t. apart n n (lt-suc_self n) (lt-suc_self n) t t),
        by_order n (λ u l. apart u n (le_step l) (lt-suc_self n)),
        mul-suc (suc n) n,
        mul_comm (suc n) n,
        mul-suc n n,
      )

  -- Counted both ways round each pair is counted twice.
  pub pairs_twice : (n : ℕ) → ((v : ℕ) → T (B v v) → ⊥) → ((u v : ℕ) → B u v ≡ B v u) → sum n (λ v. count n (λ u. B u v)) ≡ 2 * count_pairs n B
  unfolding count_pairs sum ordered
  pairs_twice zero none turned = refl
  pairs_twice (suc n) none turned =
      omega (arith, pairs_twice n none turned, ordered_more n (none n), count_ext n (λ v. B n v) (λ u. B u n) (λ u l. turned n u))

none_ordered : (n : ℕ) → sum n (λ v. count n (λ u. false)) ≡ 0
unfolding count over
none_ordered n = sum_zero n _ (λ v l. sum_zero n _ (λ u k. refl))

square : (n : ℕ) → n * n ≡ n * (n - 1) + n
square zero = refl
square (suc n) = let back : suc n - 1 ≡ n = omega arith in rw back (mul-suc (suc n) n)

-- all of them
pub pairs_all : (n : ℕ) (R : ℕ → ℕ → Bool) → ((u v : ℕ) → u < v → v < n → T (R u v)) → count_pairs n R ≡ n * (n - 1) / 2
pairs_all n R all =
    omega (
      arith,
      pairs_mono n R (neither (λ u v. false)) (λ u v k l t. tt),
      pairs_mono n (neither (λ u v. false)) R (λ u v k l t. all u v k l),
      pairs_left (λ u v. false) n (λ u v k l t. absurd t),
      none_ordered n,
      square n,
    )
