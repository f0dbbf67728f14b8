-- Along the list of an event, until the pair that starts at the event asked for.
use Prim.Native.Nat.{ℕ, ◌+◌, ◌-◌, ◌≤◌, ◌<◌}
use native.Mathlib.Numerals.{lt_of_le_of_ne}
use native.Mathlib.Omega.{arith}
use mathlib.Core.List.{List}
use mathlib.Core.Path.{◌≡◌, sym, ap, ◌∙◌}
use lib.Dec.{T, eqb, eqb→eq}
use lib.ListN.{get_or}
use mir.Facts.{and_yes, yes_and, yes_eqb}
use Rattle.finite.specs.Last.{last, last_le, last_passes, last_above}
use Rattle.ids.specs.Limits.{most_events, most_pairs}
use Rattle.plan.specs.Net.{Plan}
use Rattle.plan.specs.Order.{skeleton}
use Rattle.skeleton.specs.Linked.{IsLink}
use Rattle.skeleton.specs.Lists.{link_at, start_at, ends_at, Lists}

-- what the last skeleton pair into b below a bound is
listed : (P : Plan) (b m i : ℕ) → last m (ends_at P b) ≡ i + 1 → (i < m) × T (skeleton P i) × (P.later i ≡ b)
listed P b m i is =
    let both = and_yes (eqb (P.later i) b) (skeleton P i) (last_passes (ends_at P b) m i is) in
    (omega (arith, is, last_le (ends_at P b) m), both.1, eqb→eq (P.later i) b both.0)

-- a pair from a to b lies below the last into b
passed : (P : Plan) (a b m i : ℕ) → IsLink P P.pairs a b i → i < m → i < last m (ends_at P b)
passed P a b m i link below = last_above (ends_at P b) m i below (yes_and (eqb (P.later i) b) (skeleton P i) (yes_eqb link.ends) link.bare)

-- In every plan that has the index pair i is in the list of b, and in some plan a pair from a to b is i or is listed before it.
pub record Seeking (index : List ℕ) (a b i : ℕ) : Type 0 where
  pub here : (P : Plan) → Lists P P.pairs index → (i < P.pairs) × T (skeleton P i) × (P.later i ≡ b)
  pub ahead : (P : Plan) × Lists P P.pairs index × (j : ℕ) × IsLink P P.pairs a b j × (j ≤ i)

module _ (index : List ℕ) (a b : ℕ) (event : b < most_events) (some : (P : Plan) × Lists P P.pairs index × (j : ℕ) × IsLink P P.pairs a b j) where
  -- the list is not empty
  pub seek_some : 0 < get_or index b 0
  seek_some = omega (arith, some.1.heads b event, passed some.0 a b some.0.pairs some.2 some.3 some.3.named)

  pub seek_start : (i : ℕ) → i ≡ get_or index b 0 - 1 → Seeking index a b i
  seek_start i is =
      record {
        here = λ P lists. listed P b P.pairs i (sym (lists.heads b event) ∙ whole);
        ahead = (
          some.0,
          some.1,
          some.2,
          some.3,
          omega (arith, is, some.1.heads b event, passed some.0 a b some.0.pairs some.2 some.3 some.3.named),
        );
      }
    where
      whole : get_or index b 0 ≡ i + 1
      whole = omega (arith, is, seek_some)

module _ {index : List ℕ} {a b i : ℕ} (seeking : Seeking index a b i) where
  pub seek_few : i < most_pairs
  seek_few = let some = seeking.ahead in omega (arith, (seeking.here some.0 some.1).0, some.1.few)

  -- the pair is found
  pub seek_end : get_or index (start_at i) 0 ≡ a → (P : Plan) → Lists P P.pairs index → IsLink P P.pairs a b i
  seek_end is P lists =
      let pair = seeking.here P lists in
      record { named = pair.0; bare = pair.1; starts = sym (lists.starts i pair.0 pair.1) ∙ is; ends = pair.2 }

  link : (P : Plan) → Lists P P.pairs index → get_or index (link_at i) 0 ≡ last i (ends_at P b)
  link P lists =
      let pair = seeking.here P lists in
      lists.links i pair.0 pair.1 ∙ ap (λ (v : ℕ). last i (ends_at P v)) pair.2

  module _ (other : ¬ (get_or index (start_at i) 0 ≡ a)) where
    -- it is listed before this one
    before : get_or index (link_at i) 0 ≡ last i (ends_at seeking.ahead.0 b) × (seeking.ahead.2 < last i (ends_at seeking.ahead.0 b))
    before =
        let some = seeking.ahead in
        let P = some.0 in
        let apart : ¬ (some.2 ≡ i) = λ e. other (lists-start e) in
        (link P some.1, passed P a b i some.2 some.3 (lt_of_le_of_ne some.4 apart))
      where
        lists-start : seeking.ahead.2 ≡ i → get_or index (start_at i) 0 ≡ a
        lists-start e =
            let some = seeking.ahead in
            let pair = seeking.here some.0 some.1 in
            some.1.starts i pair.0 pair.1 ∙ ap some.0.earlier (sym e) ∙ some.3.starts

    pub seek_more : 0 < get_or index (link_at i) 0
    seek_more = omega (arith, before.0, before.1)

    pub seek_less : get_or index (link_at i) 0 - 1 < i
    seek_less = let some = seeking.ahead in omega (arith, seek_more, before.0, last_le (ends_at some.0 b) i)

    pub seek_next : (n : ℕ) → n ≡ get_or index (link_at i) 0 - 1 → Seeking index a b n
    seek_next n is =
        record {
          here = λ P lists.
              let pair = listed P b i n (sym (link P lists) ∙ whole) in
              (omega (arith, pair.0, (seeking.here P lists).0), pair.1, pair.2);
          ahead = let some = seeking.ahead in (some.0, some.1, some.2, some.3, omega (arith, is, before.0, before.1));
        }
      where
        whole : get_or index (link_at i) 0 ≡ n + 1
        whole = omega (arith, is, seek_more)
