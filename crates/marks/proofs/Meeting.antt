-- Whether two rows have a mark in common, by the union of what their words have in common.
use Prim.Native.Nat.{ℕ, ◌+◌, ◌*◌, ◌/◌, ◌%◌, ◌^◌, ◌<◌}
use native.Mathlib.Numerals.{add-one}
use native.Mathlib.Omega.{arith}
use mathlib.Core.Bool.{Bool, not, ◌&&◌, ◌||◌}
use mathlib.Core.List.{List}
use mathlib.Core.Path.{◌≡◌, sym, ap, ap₂, subst, ◌∙◌}
use lib.Bits.{bit_and, bit_or, and_lt, or_lt}
use lib.Dec.{T, eqb, eqb→eq, not_T}
use lib.ListN.{get_or}
use mir.Facts.{eqb_no}
use Rattle.finite.specs.Bounded.{any, any_yes, yes_any, same}
use Rattle.marks.specs.Marks.{bit, bit_none, marked, meeting}
use Rattle.marks.proofs.Bits.{bit_and_lem, bit_or_lem, some_bit}
use Rattle.marks.proofs.Rows.{word_mark}

-- word q of both rows has the bit t
unfoldable pub in_both : List ℕ → ℕ → List ℕ → ℕ → ℕ → ℕ → Bool
in_both a i b j t q = bit (get_or a (i * 8 + q) 0) t && bit (get_or b (j * 8 + q) 0) t

-- `both` is the union over the first k words
pub record Gathered (a : List ℕ) (i : ℕ) (b : List ℕ) (j both k : ℕ) : Type 0 where
  pub fits : both < 2 ^ 32
  pub bits : (t : ℕ) → bit both t ≡ any k (in_both a i b j t)

pub start : (a : List ℕ) (i : ℕ) (b : List ℕ) (j both k : ℕ) → both ≡ 0 → k ≡ 0 → Gathered a i b j both k
unfolding any
start a i b j both k empty none = record { fits = omega arith; bits = λ t. rw (empty, none) (bit_none t) }

pub more : (a : List ℕ) (i : ℕ) (b : List ℕ) (j both k common : ℕ) → ((q : ℕ) → get_or a q 0 < 2 ^ 32) → ((q : ℕ) → get_or b q 0 < 2 ^ 32)
    → common ≡ bit_and (get_or a (i * 8 + k) 0) (get_or b (j * 8 + k) 0) → Gathered a i b j both k → Gathered a i b j (bit_or both common) (k + 1)
unfolding any in_both
more a i b j both k common ha hb is g =
    let x = get_or a (i * 8 + k) 0 in
    let y = get_or b (j * 8 + k) 0 in
    rw is
    record {
      fits = or_lt 32 both (bit_and x y) g.fits (and_lt 32 x y (ha _) (hb _));
      bits = λ t. bit_or_lem both (bit_and x y) t ∙ ap₂ ◌||◌ (g.bits t) (bit_and_lem x y t) ∙ ap (λ (n : ℕ). any n (in_both a i b j t)) (sym (add-one k));
    }

pub done : (a : List ℕ) (i : ℕ) (b : List ℕ) (j both k : ℕ) → k ≡ 8 → Gathered a i b j both k → not (eqb both 0) ≡ meeting a i b j
unfolding meeting marked in_both
done a i b j both k e g = same (not (eqb both 0)) (any 256 common) to from
  where
    common : ℕ → Bool
    common w = marked a i w && marked b j w

    to : T (not (eqb both 0)) → T (any 256 common)
    to h =
        let some = some_bit 32 both g.fits (eqb_no {a = both} {b = 0} h) in
        let at = any_yes k (in_both a i b j some.0) (subst T (g.bits some.0) some.2) in
        let both_words = ap₂ ◌&&◌ (word_mark a i at.0 some.0 some.1) (word_mark b j at.0 some.0 some.1) in
        yes_any 256 common (at.0 * 32 + some.0) (omega (arith, at.1, some.1)) (subst T both_words at.2)

    from : T (any 256 common) → T (not (eqb both 0))
    from h =
        let some = any_yes 256 common h in
        let there = yes_any k (in_both a i b j (some.0 % 32)) (some.0 / 32) (omega (arith, some.1)) some.2 in
        let bit-there = subst T (sym (g.bits (some.0 % 32))) there in
        not_T (eqb both 0) (λ z. subst T (ap (λ (x : ℕ). bit x (some.0 % 32)) (eqb→eq both 0 z) ∙ bit_none (some.0 % 32)) bit-there)
