-- A list that stands in another one, from a position on: part by part, both ways. And lists of bytes.
use Prim.Native.Nat.{ℕ, zero, suc, ◌+◌, ◌-◌, ◌*◌, ◌<◌, ◌≤◌}
use Rattle.std.proofs.Math.Nat.{le_step}
use Rattle.std.proofs.Common.{lt-suc_self, arith, ⊎_elim, sym, ap, ◌∙◌, ltb→lt, nltb→le, length-append, ext_get_or, get_or-append-add, get_or-take, get_or-drop}
use Rattle.std.specs.Prelude.{List, ◌++◌, ◌≡◌, ltb, length, get_or}
use Rattle.std.proofs.Math.Path.{subst}
use Rattle.std.proofs.Math.ListN.{get_or-append}
use Rattle.std.proofs.Math.Seq.{length-slice, slice}
use Rattle.finite.specs.Bounded.{below_suc, decide}
use Rattle.finite.specs.Each.{each, each_length}

-- Each number of a list is a byte.
abbrev pub Bytes : List ℕ → Type 0
Bytes s = (i : ℕ) → i < length s → get_or s i 0 < 256

-- The list xs stands in s from a position on.
abbrev pub Stands : List ℕ → ℕ → List ℕ → Type 0
Stands s at xs = (i : ℕ) → i < length xs → get_or s (at + i) 0 ≡ get_or xs i 0

-- all of a list
pub stands_same : (s xs : List ℕ) → length s ≡ length xs → Stands s 0 xs → s ≡ xs
stands_same s xs size here = ext_get_or 0 s xs size (λ i l. let z : 0 + i ≡ i = omega arith in ap (λ (j : ℕ). get_or s j 0) (sym z) ∙ here i (omega (arith, size)))

pub stands_self : (s : List ℕ) → Stands s 0 s
stands_self s i l = let z : 0 + i ≡ i = omega arith in ap (λ (j : ℕ). get_or s j 0) z

-- a number of two lists, one after the other
on_either : (X : ℕ → Type 0) (xs ys : List ℕ) (i : ℕ) → i < length (xs ++ ys) → (i < length xs → X (get_or xs i 0))
    → ((j : ℕ) → j < length ys → i ≡ length xs + j → X (get_or ys j 0)) → X (get_or (xs ++ ys) i 0)
on_either X xs ys i l left right =
    ⊎_elim
    (λ t. let low = ltb→lt i (length xs) t in subst X (sym (get_or-append xs ys 0 i low)) (left low))
    (λ t.
    let high = nltb→le i (length xs) t in
    let j = i - length xs in
    let is : i ≡ length xs + j = omega (arith, high) in
    subst X (sym (ap (λ (k : ℕ). get_or (xs ++ ys) k 0) is ∙ get_or-append-add xs ys j 0)) (right j (omega (arith, high, length-append xs ys)) is))
    (decide (ltb i (length xs)))

module _ (s : List ℕ) (at : ℕ) where
  -- two lists, one after the other
  pub stands_both : (xs ys : List ℕ) → Stands s at xs → Stands s (at + length xs) ys → Stands s at (xs ++ ys)
  stands_both xs ys left right i l =
      on_either
      (λ n. get_or s (at + i) 0 ≡ n)
      xs
      ys
      i
      l
      (λ low. left i low)
      (λ j high is. let there : at + i ≡ at + length xs + j = omega arith in ap (λ (n : ℕ). get_or s n 0) there ∙ right j high)

  pub stands_left : (xs ys : List ℕ) → Stands s at (xs ++ ys) → Stands s at xs
  stands_left xs ys here i l = here i (omega (arith, length-append xs ys)) ∙ get_or-append xs ys 0 i l

  pub stands_right : (xs ys : List ℕ) → Stands s at (xs ++ ys) → Stands s (at + length xs) ys
  stands_right xs ys here i l =
      let there : at + length xs + i ≡ at + (length xs + i) = omega arith in
      ap (λ (n : ℕ). get_or s n 0) there ∙ here (length xs + i) (omega (arith, length-append xs ys)) ∙ get_or-append-add xs ys i 0

-- Lists of w numbers each, one after another.
module _ (s : List ℕ) (at w : ℕ) (f : ℕ → List ℕ) where
  pub stands_each : (n : ℕ) → ((i : ℕ) → i < n → length (f i) ≡ w) → ((i : ℕ) → i < n → Stands s (at + w * i) (f i)) → Stands s at (each n f)
  unfolding each
  stands_each zero size here = λ i l. absurd (omega arith)
  stands_each (suc n) size here =
      stands_both
      s
      at
      (each n f)
      (f n)
      (stands_each n (λ i l. size i (le_step l)) (λ i l. here i (le_step l)))
      (subst (λ (k : ℕ). Stands s (at + k) (f n)) (sym (each_length w n f (λ i l. size i (le_step l)))) (here n (lt-suc_self n)))

  pub each_stands : (n : ℕ) → ((i : ℕ) → i < n → length (f i) ≡ w) → Stands s at (each n f) → (i : ℕ) → i < n → Stands s (at + w * i) (f i)
  unfolding each
  each_stands zero size here i l = absurd (omega arith)
  each_stands (suc n) size here i l =
      below_suc
      n
      i
      l
      (λ low. each_stands n (λ j m. size j (le_step m)) (stands_left s at (each n f) (f n) here) i low)
      (λ e.
      subst
      (λ (j : ℕ). Stands s (at + w * j) (f j))
      (sym e)
      (subst (λ (k : ℕ). Stands s (at + k) (f n)) (each_length w n f (λ j m. size j (le_step m))) (stands_right s at (each n f) (f n) here)))

-- a number of a part
pub part_at : (s : List ℕ) (from to i : ℕ) → from + i < to → get_or (slice from to s) i 0 ≡ get_or s (from + i) 0
part_at s from to i l = get_or-drop from _ i 0 ∙ get_or-take to s (from + i) 0 l

-- What stands in a list from one position up to another is that part of it.
pub stands_part : (s : List ℕ) (from to : ℕ) (xs : List ℕ) → from + length xs ≡ to → to ≤ length s → Stands s from xs → slice from to s ≡ xs
stands_part s from to xs size within here =
    ext_get_or
    0
    (slice from to s)
    xs
    (omega (arith, length-slice from to s within))
    (λ i l. let below : i < length xs = omega (arith, length-slice from to s within) in part_at s from to i (omega arith) ∙ here i below)

-- Lists of bytes, one after another.
pub bytes_both : (xs ys : List ℕ) → Bytes xs → Bytes ys → Bytes (xs ++ ys)
bytes_both xs ys left right i l = on_either (λ n. n < 256) xs ys i l (λ low. left i low) (λ j high is. right j high)

pub bytes_each : (n : ℕ) (f : ℕ → List ℕ) → ((i : ℕ) → i < n → Bytes (f i)) → Bytes (each n f)
unfolding each
bytes_each zero f h = λ i l. absurd (omega arith)
bytes_each (suc n) f h = bytes_both (each n f) (f n) (bytes_each n f (λ i l. h i (le_step l))) (h n (lt-suc_self n))
