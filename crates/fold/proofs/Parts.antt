-- A row whose first part and whose rest are lent one after the other.
use Prim.Native.Nat.{ℕ, ◌+◌, ◌-◌, ◌≤◌}
use native.Mathlib.Omega.{arith}
use mathlib.Core.List.{List, [], ◌++◌, append-nil}
use mathlib.Core.Path.{◌≡◌, sym, ap, ap₂, ◌∙◌}
use lib.ListN.{length, get_or, take, drop, length-append, length-drop, drop_of_length-le, get_or-append}
use lib.Seq.{length-take-le, take_at, drop_at, take_all, get_or-drop, get_or-append-add}
use Rattle.finite.specs.Filled.{Filled}
use Rattle.plan.specs.Net.{Plan}
use Rattle.fold.specs.Folded.{Folded, folded_row}
use Rattle.fold.specs.Written.{numbers_of, SharesFrom}

-- the row after its first part came back as `first`, what is lent of it next, and the row after that came back as `next`
abbrev pub between : ℕ → List ℕ → List ℕ → List ℕ
between m row first = first ++ drop m row

abbrev pub lent_part : ℕ → List ℕ → List ℕ → List ℕ
lent_part m row first = take (length (between m row first) - m) (drop m (between m row first))

abbrev pub whole : ℕ → List ℕ → List ℕ → List ℕ → List ℕ
whole m row first next = take m (between m row first) ++ (next ++ drop (length (between m row first) - m) (drop m (between m row first)))

module _ (m : ℕ) (row first : List ℕ) (long : m ≤ length row) (kept : length first ≡ length (take m row)) where
  size : length first ≡ m
  size = kept ∙ length-take-le m row long

  left : length (drop m row) ≡ length (between m row first) - m
  left = simp (length-append, length-drop) (omega (arith, size))

  -- what is lent next is the rest of the row
  lent : lent_part m row first ≡ drop m row
  lent =
      ap (take (length (between m row first) - m)) (drop_at first (drop m row) m size)
      ∙ take_all (length (between m row first) - m) (drop m row) (omega (arith, left))

  pub lent_long : (n : ℕ) → m + n ≤ length row → n ≤ length (lent_part m row first)
  lent_long n h = rw lent (omega (arith, length-drop m row))

  module _ (next : List ℕ) where
    rest_none : drop (length (between m row first) - m) (drop m (between m row first)) ≡ []
    rest_none =
        ap (drop (length (between m row first) - m)) (drop_at first (drop m row) m size)
        ∙ drop_of_length-le (drop m row) {i = length (between m row first) - m} (omega (arith, left))

    back : whole m row first next ≡ first ++ next
    back = ap₂ ◌++◌ (take_at first (drop m row) m size) (ap (λ (r : List ℕ). next ++ r) rest_none ∙ append-nil next)

    later : (v : ℕ) → get_or (first ++ next) (m + v) 0 ≡ get_or next v 0
    later v = ap (λ (n : ℕ). get_or (first ++ next) (n + v) 0) (sym size) ∙ get_or-append-add first next v 0

    pub parts_shares : (share : List ℕ) (n : ℕ) → Filled (numbers_of share) n (lent_part m row first) next
        → SharesFrom m row (whole m row first next) share n
    parts_shares share n written =
        let w : Filled (numbers_of share) n (drop m row) next = rw lent at written in
        rw
        back
        (record {
          size = omega (arith, length-append first next, w.size, length-drop m row, size);
          shares = λ v l. later v ∙ w.numbers v l;
          rest = λ j l.
              let at : m + (j - m) ≡ j = omega arith in
              ap (λ (n : ℕ). get_or (first ++ next) n 0) (sym at) ∙ later (j - m) ∙ w.rest (j - m) (omega arith)
              ∙ get_or-drop m row (j - m) 0
              ∙ ap (λ (n : ℕ). get_or row n 0) at;
        })

    pub parts_folded : (P : Plan) (y : ℕ → ℕ → ℕ) → P.pairs ≡ m → Folded P y (numbers_of first) → Folded P y (numbers_of (whole m row first next))
    parts_folded P y e f =
        rw
        back
        (folded_row P y (numbers_of first) (numbers_of (first ++ next)) f (λ i l. sym (get_or-append first next 0 i (omega (arith, size)))))
