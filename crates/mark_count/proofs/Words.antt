-- The bits of a word counted from the lowest up, and the marks of a row word by word.
use Prim.Native.Nat.{ℕ, zero, suc, ◌+◌, ◌*◌, ◌%◌, ◌/◌, ◌^◌, ◌≤◌, ◌<◌}
use native.Mathlib.Nat.{pow-suc}
use native.Mathlib.Omega.{arith}
use mathlib.Core.Bool.{Bool}
use mathlib.Core.List.{List}
use mathlib.Core.Path.{◌≡◌, refl, ap, ◌∙◌}
use lib.Count.{ones, ones_step, ones-le}
use lib.Dec.{eqb}
use lib.ListN.{get_or}
use Rattle.finite.specs.Count.{count, count_ext, count_le}
use Rattle.finite.specs.Sum.{on, sum, over, sum_ext, sum_first, sum_parts}
use Rattle.marks.specs.Marks.{bit, marked}
use Rattle.marks.proofs.Bits.{below_two, bit_first, bit_suc}
use Rattle.marks.proofs.Rows.{word_mark, row_part, part_word}
use Rattle.mark_count.specs.MarkCount.{bits_of, marks_of}

digit : (x : ℕ) → x < 2 → on (eqb x 1) 1 ≡ x
digit = below_two (λ x. on (eqb x 1) 1 ≡ x) refl refl

-- what the machine counts are the bits of a word
pub ones_counted : (d w : ℕ) → w < 2 ^ d → ones w ≡ count d (bit w)
unfolding count over sum
ones_counted zero w h = omega (arith, ones-le zero w h)
ones_counted (suc d) w h =
    omega (
      arith,
      ones_step w,
      sum_first d (λ t. on (bit w t) 1),
      ap (λ (b : Bool). on b 1) (bit_first w) ∙ digit (w % 2) (omega arith),
      sum_ext d (λ t. on (bit w (suc t)) 1) (λ t. on (bit (w / 2) t) 1) (λ t l. ap (λ (b : Bool). on b 1) (bit_suc w t)),
      ones_counted d (w / 2) (omega (arith, h, pow-suc 2 d)),
    )

-- What a loop knows that has counted k words: the marks below 32 * k.
pub record Counted (rows : List ℕ) (i k n : ℕ) : Type 0 where
  pub words : k ≤ 8
  pub marks : n ≡ count (k * 32) (marked rows i)

module _ (rows : List ℕ) (i : ℕ) where
  pub start : Counted rows i 0 0
  unfolding count over sum
  start = record { words = omega arith; marks = refl }

  more_bits : (k n bits : ℕ) → k < 8 → bits ≡ bits_of (get_or rows (i * 8 + k) 0) → Counted rows i k n → Counted rows i (k + 1) (n + bits)
  unfolding count over
  more_bits k n bits l counted so_far =
      record {
        words = omega arith;
        marks =
            omega (
              arith,
              so_far.marks,
              counted,
              count_ext 32 (bit (get_or rows (i * 8 + k) 0)) (λ t. marked rows i (k * 32 + t)) (λ t h. word_mark rows i k t h),
              sum_parts (k * 32) 32 (λ v. on (marked rows i v) 1),
              ap (λ (x : ℕ). sum x (λ v. on (marked rows i v) 1)) (suc_blocks k),
            );
      }
    where
      suc_blocks : (k : ℕ) → (k + 1) * 32 ≡ k * 32 + 32
      suc_blocks k = omega arith

  -- word k of the row
  abbrev row_word : ℕ → ℕ
  row_word k = get_or (row_part rows i) k 0

  module _ (words : (q : ℕ) → get_or rows q 0 < 2 ^ 32) (k : ℕ) (l : k < 8) where
    counted : ones (row_word k) ≡ bits_of (get_or rows (i * 8 + k) 0)
    counted = ap ones (part_word rows i k l) ∙ ones_counted 32 (get_or rows (i * 8 + k) 0) (words (i * 8 + k))

    -- a word has 32 bits
    pub few_ones : ones (row_word k) ≤ 32
    few_ones = omega (arith, counted, count_le 32 (bit (get_or rows (i * 8 + k) 0)))

    pub more : (n : ℕ) → Counted rows i k n → Counted rows i (k + 1) (n + ones (row_word k))
    more n so_far = more_bits k n (ones (row_word k)) l counted so_far

  pub most : (k n : ℕ) → Counted rows i k n → n ≤ k * 32
  most k n so_far = omega (arith, so_far.marks, count_le (k * 32) (marked rows i))

  pub done : (k n : ℕ) → 8 ≤ k → Counted rows i k n → (n ≡ marks_of rows i) × (n ≤ 256)
  done k n all so_far =
      let last : k ≡ 8 = omega (arith, so_far.words) in
      let is : n ≡ marks_of rows i = so_far.marks ∙ ap (λ (x : ℕ). count (x * 32) (marked rows i)) last in
      (is, omega (arith, is, count_le 256 (marked rows i)))
