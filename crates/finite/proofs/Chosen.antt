-- What is among the chosen numbers: each that passes, once, ascending; and what a loop knows that collects them.
use Prim.Native.Nat.{ℕ, zero, suc, ◌+◌, ◌≤◌, ◌<◌}
use Rattle.std.proofs.Math.Nat.{le_step}
use Rattle.std.proofs.Common.{lt-suc_self, ⊎_elim, ◌∙◌, ltb→lt, nltb→le}
use Rattle.std.proofs.Math.Numerals.{add-one}
use native.Mathlib.Omega.{arith}
use Rattle.std.specs.Prelude.{Bool, ◌≡◌, ltb}
use Rattle.std.proofs.Math.Bool.{true, false}
use mathlib.Core.List.{List, [], ◌∷◌, ◌++◌, append-nil}
use Rattle.std.proofs.Math.Path.{refl, sym, subst}
use Rattle.std.proofs.Math.Dec.{T}
use Rattle.std.proofs.Math.ListN.{length, get_or, length-append, get_or-append}
use Rattle.std.proofs.lemmas.List.{get_or_at}
use Rattle.finite.specs.Bounded.{below_suc, decide}
use Rattle.finite.specs.Chosen.{if_passes, chosen}

-- One number more is looked at: what holds of those so far, and of that one if it passes, holds of each.
in_either : (X : ℕ → Type 0) (xs : List ℕ) (b : Bool) (n k : ℕ) → k < length (xs ++ if_passes b n) → (k < length xs → X (get_or xs k 0)) → (T b → k ≡ length xs → X n)
    → X (get_or (xs ++ if_passes b n) k 0)
in_either X xs true n k l old new =
    ⊎_elim
    (λ t. let low = ltb→lt k (length xs) t in subst X (sym (get_or-append xs (n ∷ []) 0 k low)) (old low))
    (λ t.
    let here : k ≡ length xs = omega (arith, nltb→le k (length xs) t, length-append xs (n ∷ [])) in
    subst X (sym (get_or_at xs n [] 0 k (sym here))) (new tt here))
    (decide (ltb k (length xs)))
in_either X xs false n k l old new =
    let low : k < length xs = omega (arith, length-append xs []) in
    subst X (sym (get_or-append xs [] 0 k low)) (old low)

-- the last one, where it passes
at_end_lem : (xs : List ℕ) (b : Bool) (n : ℕ) → T b → (length xs < length (xs ++ if_passes b n)) × (get_or (xs ++ if_passes b n) (length xs) 0 ≡ n)
at_end_lem xs true n t = (omega (arith, length-append xs (n ∷ [])), get_or_at xs n [] 0 (length xs) refl)
at_end_lem xs false n t = absurd t

module _ (f : ℕ → Bool) where
  -- the numbers are below the bound and pass
  pub chosen_in : (n k : ℕ) → k < length (chosen n f) → (get_or (chosen n f) k 0 < n) × T (f (get_or (chosen n f) k 0))
  unfolding chosen
  chosen_in zero k l = absurd (omega arith)
  chosen_in (suc n) k l =
      in_either
      (λ i. (i < suc n) × T (f i))
      (chosen n f)
      (f n)
      n
      k
      l
      (λ low. let is = chosen_in n k low in (le_step is.0, is.1))
      (λ t here. (lt-suc_self n, t))

  -- each number that passes is among them
  pub chosen_at : (n i : ℕ) → i < n → T (f i) → (k : ℕ) × (k < length (chosen n f)) × (get_or (chosen n f) k 0 ≡ i)
  unfolding chosen
  chosen_at zero i l t = absurd (omega arith)
  chosen_at (suc n) i l t =
      below_suc
      n
      i
      l
      (λ low.
      let is = chosen_at n i low t in
      (is.0, omega (arith, is.1, length-append (chosen n f) (if_passes (f n) n)), get_or-append (chosen n f) (if_passes (f n) n) 0 is.0 is.1 ∙ is.2))
      (λ e.
      let last = at_end_lem (chosen n f) (f n) n (subst (λ (j : ℕ). T (f j)) e t) in
      (length (chosen n f), last.0, last.1 ∙ sym e))

  -- they ascend
  pub chosen_up : (n j k : ℕ) → j < k → k < length (chosen n f) → get_or (chosen n f) j 0 < get_or (chosen n f) k 0
  unfolding chosen
  chosen_up zero j k h l = absurd (omega arith)
  chosen_up (suc n) j k h l =
      in_either
      (λ i. get_or (chosen (suc n) f) j 0 < i)
      (chosen n f)
      (f n)
      n
      k
      l
      (λ low. let first = earlier (omega arith) in subst (λ (i : ℕ). i < get_or (chosen n f) k 0) (sym first) (chosen_up n j k h low))
      (λ t here. let low : j < length (chosen n f) = omega arith in omega (arith, earlier low, (chosen_in n j low).0))
    where
      earlier : j < length (chosen n f) → get_or (chosen n f ++ if_passes (f n) n) j 0 ≡ get_or (chosen n f) j 0
      earlier low = get_or-append (chosen n f) (if_passes (f n) n) 0 j low

  pub chosen_length : (n : ℕ) → length (chosen n f) ≤ n
  unfolding chosen
  chosen_length zero = omega arith
  chosen_length (suc n) = omega (arith, chosen_length n, length-append (chosen n f) (if_passes (f n) n), one (f n))
    where
      one : (b : Bool) → length (if_passes b n) ≤ 1
      one true = omega arith
      one false = omega arith

  -- where every number passes, they are all numbers
  pub chosen_count : (n : ℕ) → ((i : ℕ) → i < n → T (f i)) → length (chosen n f) ≡ n
  unfolding chosen
  chosen_count zero all = refl
  chosen_count (suc n) all =
      omega (arith, chosen_length (suc n), (at_end_lem (chosen n f) (f n) n (all n (lt-suc_self n))).0, chosen_count n (λ i l. all i (le_step l)))

  pub chosen_all : (n : ℕ) → ((i : ℕ) → i < n → T (f i)) → (k : ℕ) → k < n → get_or (chosen n f) k 0 ≡ k
  unfolding chosen
  chosen_all zero all k l = absurd (omega arith)
  chosen_all (suc n) all k l =
      in_either
      (λ i. i ≡ k)
      (chosen n f)
      (f n)
      n
      k
      (omega (arith, chosen_count (suc n) all))
      (λ low. chosen_all n (λ i m. all i (le_step m)) k (omega (arith, chosen_length n)))
      (λ t here. omega (arith, chosen_count n (λ i m. all i (le_step m))))

-- What a loop knows that counts them.
module _ (f : ℕ → Bool) (i : ℕ) where
  pub chosen_more : f i ≡ true → length (chosen (i + 1) f) ≡ length (chosen i f) + 1
  unfolding chosen
  chosen_more e = rw add-one (rw e (length-append (chosen i f) (i ∷ [])))

  pub chosen_same : f i ≡ false → chosen (i + 1) f ≡ chosen i f
  unfolding chosen
  chosen_same e = rw add-one (rw e (append-nil (chosen i f)))

  -- the new one is behind the others, which stay
  pub chosen_next : f i ≡ true → get_or (chosen (i + 1) f) (length (chosen i f)) 0 ≡ i
  unfolding chosen
  chosen_next e = rw add-one (rw e (get_or_at (chosen i f) i [] 0 (length (chosen i f)) refl))

  pub chosen_old : (k : ℕ) → k < length (chosen i f) → get_or (chosen (i + 1) f) k 0 ≡ get_or (chosen i f) k 0
  unfolding chosen
  chosen_old k l = rw add-one (get_or-append (chosen i f) (if_passes (f i) i) 0 k l)
