-- The bits of a word: of a union, of what two words have in common, of a complement, of a power of two, and that a word above 0 has one.
use Prim.Native.Nat.{ℕ, zero, suc, ◌-◌, ◌*◌, ◌/◌, ◌%◌, ◌^◌, ◌<◌, suc-le-suc, min, max}
use native.Mathlib.Nat.{div-one, div-eq_of_lt-le, zero-lt-suc, le_of_suc-le-suc, not-suc-le-zero, pow-suc}
use native.Mathlib.Numerals.{one-add}
use native.Mathlib.Omega.{arith}
use mathlib.Core.Bool.{Bool, not, ◌&&◌, ◌||◌}
use mathlib.Core.Logic.{⊎_elim}
use mathlib.Core.Path.{◌≡◌, refl, sym, ap, subst, ◌∙◌}
use lib.Arith.{lt-one}
use lib.Bits.{bit_and, bit_or, and_step, and_shr, or_step, or_shr, shifted_half, shifted_even}
use lib.Count.{count_leading_zeros, leading_top}
use lib.Dec.{T, eqb, eqb-suc-suc, eqb-suc-zero, eqb-zero-suc}
use lib.Pow.{shr-shr}
use mir.Facts.{eqb_no}
use Rattle.finite.specs.Bounded.{decide}
use Rattle.marks.specs.Marks.{bit, bit_none, SetBit}

or_digit : (a b : ℕ) → bit_or a b % 2 ≡ max (a % 2) (b % 2)
or_digit a b = omega (arith, or_step a b)

and_digit : (a b : ℕ) → bit_and a b % 2 ≡ min (a % 2) (b % 2)
and_digit a b = omega (arith, and_step a b)

pub below_two : (F : ℕ → Type 0) → F 0 → F 1 → (x : ℕ) → x < 2 → F x
below_two F f g zero h = f
below_two F f g (suc zero) h = g
below_two F f g (suc (suc x)) h = absurd (not-suc-le-zero (le_of_suc-le-suc (le_of_suc-le-suc h)))

max_test : (x : ℕ) → x < 2 → (y : ℕ) → y < 2 → eqb (max x y) 1 ≡ (eqb x 1 || eqb y 1)
max_test =
    below_two
    (λ x. (y : ℕ) → y < 2 → eqb (max x y) 1 ≡ (eqb x 1 || eqb y 1))
    (below_two (λ y. eqb (max 0 y) 1 ≡ (eqb 0 1 || eqb y 1)) refl refl)
    (below_two (λ y. eqb (max 1 y) 1 ≡ (eqb 1 1 || eqb y 1)) refl refl)

min_test : (x : ℕ) → x < 2 → (y : ℕ) → y < 2 → eqb (min x y) 1 ≡ (eqb x 1 && eqb y 1)
min_test =
    below_two
    (λ x. (y : ℕ) → y < 2 → eqb (min x y) 1 ≡ (eqb x 1 && eqb y 1))
    (below_two (λ y. eqb (min 0 y) 1 ≡ (eqb 0 1 && eqb y 1)) refl refl)
    (below_two (λ y. eqb (min 1 y) 1 ≡ (eqb 1 1 && eqb y 1)) refl refl)

pub bit_or_lem : (a b k : ℕ) → bit (bit_or a b) k ≡ (bit a k || bit b k)
unfolding bit
bit_or_lem a b k =
    rw (or_shr a b k, or_digit (a / 2 ^ k) (b / 2 ^ k)) (max_test (a / 2 ^ k % 2) (omega arith) (b / 2 ^ k % 2) (omega arith))

pub bit_and_lem : (a b k : ℕ) → bit (bit_and a b) k ≡ (bit a k && bit b k)
unfolding bit
bit_and_lem a b k =
    rw (and_shr a b k, and_digit (a / 2 ^ k) (b / 2 ^ k)) (min_test (a / 2 ^ k % 2) (omega arith) (b / 2 ^ k % 2) (omega arith))

-- the bits from the second on are those of the half
pub bit_suc : (w k : ℕ) → bit w (suc k) ≡ bit (w / 2) k
unfolding bit
bit_suc w k = ap (λ (x : ℕ). eqb (x % 2) 1) (ap (λ (e : ℕ). w / 2 ^ e) (sym (one-add k)) ∙ sym (shr-shr w 1 k))

pub bit_first : (w : ℕ) → bit w 0 ≡ eqb (w % 2) 1
unfolding bit
bit_first w = rw (div-one w)

other_digit : (x : ℕ) → x < 2 → eqb (1 - x) 1 ≡ not (eqb x 1)
other_digit = below_two (λ x. eqb (1 - x) 1 ≡ not (eqb x 1)) refl refl

-- the bits of a complement in n bits
bit_not : (n w k : ℕ) → w < 2 ^ n → k < n → bit ((2 ^ n - 1) - w) k ≡ not (bit w k)
bit_not zero w k h l = absurd (not-suc-le-zero l)
bit_not (suc n) w zero h l =
    let digit : ((2 ^ suc n - 1) - w) % 2 ≡ 1 - w % 2 = omega (arith, h, pow-suc 2 n) in
    bit_first ((2 ^ suc n - 1) - w) ∙ rw digit (other_digit (w % 2) (omega arith)) ∙ ap not (sym (bit_first w))
bit_not (suc n) w (suc k) h l =
    let half : ((2 ^ suc n - 1) - w) / 2 ≡ (2 ^ n - 1) - w / 2 = omega (arith, h, pow-suc 2 n) in
    bit_suc ((2 ^ suc n - 1) - w) k
    ∙ rw half (bit_not n (w / 2) k (omega (arith, h, pow-suc 2 n)) (le_of_suc-le-suc l)) ∙ ap not (sym (bit_suc w k))

pub bit_and_not : (a b k : ℕ) → b < 2 ^ 32 → k < 32 → bit (bit_and a ((2 ^ 32 - 1) - b)) k ≡ (bit a k && not (bit b k))
bit_and_not a b k h l = bit_and_lem a ((2 ^ 32 - 1) - b) k ∙ ap (λ (x : Bool). bit a k && x) (bit_not 32 b k h l)

-- the highest bit
pub top_bit : (x : ℕ) → 0 < x → x < 2 ^ 32 → SetBit x (31 - count_leading_zeros 32 x)
unfolding bit
top_bit x p h =
    let t = leading_top 32 x p h in
    let j = t.0 in
    let place : 31 - count_leading_zeros 32 x ≡ j = omega (arith, t.1) in
    let one : x / 2 ^ j ≡ 1 = div-eq_of_lt-le (2 ^ j) (omega (arith, t.2)) (omega (arith, t.3, pow-suc 2 j)) in
    record {
      within = omega (arith, t.1);
      set = rw (place, one) tt;
    }

-- the one bit of a power of two
pub bit_one : (j k : ℕ) → bit (1 * 2 ^ j) k ≡ eqb k j
unfolding bit
bit_one zero zero = refl
bit_one zero (suc k) = bit_suc (1 * 2 ^ zero) k ∙ bit_none k ∙ sym (eqb-suc-zero k)
bit_one (suc j) zero = ap (λ (x : ℕ). eqb (x % 2) 1) (div-one (1 * 2 ^ suc j)) ∙ ap (λ (x : ℕ). eqb x 1) (shifted_even 1 j) ∙ sym (eqb-zero-suc j)
bit_one (suc j) (suc k) = bit_suc (1 * 2 ^ suc j) k ∙ ap (λ (x : ℕ). bit x k) (shifted_half 1 j) ∙ bit_one j k ∙ sym (eqb-suc-suc k j)

-- a word above 0 has a bit
pub some_bit : (n w : ℕ) → w < 2 ^ n → (w ≡ 0 → ⊥) → (k : ℕ) × (k < n) × T (bit w k)
some_bit zero w h ne = absurd (ne (lt-one h))
some_bit (suc n) w h ne =
    ⊎_elim
    (λ odd. (0, zero-lt-suc n, subst T (sym (bit_first w)) odd))
    (λ even.
    let more = some_bit n (w / 2) (omega (arith, h, pow-suc 2 n)) (λ e. omega (arith, eqb_no {a = w % 2} {b = 1} even)) in
    (suc more.0, suc-le-suc more.1, subst T (sym (bit_suc w more.0)) more.2))
    (decide (eqb (w % 2) 1))
