-- What the reasons say: the kept pairs have the order of those that name two different events, and on a sheet without fault every pair is kept.
use Rattle.std.specs.Prelude.{ℕ, zero, suc, ◌<◌, ◌≤◌, Bool, ◌&&◌, ◌||◌, List, ◌↔◌, ◌≡◌, Option, Some, None}
use Rattle.std.proofs.Common.{arith, true≢false, ⊎_elim, ap₂, ◌∙◌}
use Rattle.std.proofs.Math.Bool.{true, false, not}
use Rattle.std.proofs.Math.Path.{refl, sym, subst}
use borrow.Author.Tests.{leb-false, eqb-false}
use denote.Floats.{is_true}
use Rattle.std.proofs.Math.Dec.{T, eqb, leb}
use Rattle.std.specs.Float.Ieee.Bits.{is_false}
use Rattle.std.proofs.Math.Facts.{yes_eqb}
use Rattle.finite.specs.Bounded.{any, any_yes, yes_any, decide}
use Rattle.finite.proofs.Chosen.{chosen_in}
use Rattle.finite.specs.Search.{nothing_found}
use Rattle.ids.specs.Limits.{most_events}
use Rattle.plan.specs.Compare.{SamePairs}
use Rattle.plan.specs.OnlyPairs.{chosen_pair, only_pairs, before_among, only_among, only_all, pairs_before}
use Rattle.plan.proofs.OnlyPairs.{before_same}
use Rattle.plan.specs.Order.{Before, before}
use Rattle.sheet.specs.Clear.{names_events, names_different}
use Rattle.sheet.proofs.Clear.{repeats_none}
use Rattle.sheet.specs.Faultless.{Faultless}
use Rattle.sheet.specs.Faults.{no_event_at, self_pair_at, same_pair, repeat_at}
use Rattle.sheet.specs.Items.{earlier_at, later_at, plan_of}
use Rattle.sheet.specs.Table.{events_of, pairs_of}
use Rattle.reasons.specs.Bytes.{byte_of}
use Rattle.reasons.specs.declared.Reason.{Reason}
use Rattle.reasons.specs.declared.Reason.TheVariants.{NoEvent, OneEvent, Repeat}
use Rattle.reasons.specs.Reasons.{reason, reason_at, kept, names_two, kept_plan, kept_count, kept_cycle}
use Rattle.reasons.specs.Laws.{SameEnds, same_yes, yes_same}

-- what a reason says
reason_0 : (x y z : Bool) → T (eqb (reason x y z) 0) → T (not x && not y) × (z ≡ false)
reason_0 true y z t = absurd t
reason_0 false true z t = absurd t
reason_0 false false true t = absurd t
reason_0 false false false t = (tt, refl)

is_kept : (x y z : Bool) → T (not x && not y) → z ≡ false → reason x y z ≡ 0
is_kept true y z t e = absurd t
is_kept false true z t e = absurd t
is_kept false false true t e = absurd (true≢false e)
is_kept false false false t e = refl

reason_3 : (x y z : Bool) → reason x y z ≡ 3 → T (not x && not y) × (z ≡ true)
reason_3 true y z e = absurd (omega arith)
reason_3 false true z e = absurd (omega arith)
reason_3 false false true e = (tt, refl)
reason_3 false false false e = absurd (omega arith)

is_repeat : (x y z : Bool) → T (not x && not y) → z ≡ true → reason x y z ≡ 3
is_repeat true y z t e = absurd t
is_repeat false true z t e = absurd t
is_repeat false false true t e = refl
is_repeat false false false t e = absurd (true≢false (sym e))

only_1 : (r : Option Reason) → byte_of r ≡ 1 → r ≡ Some NoEvent
only_1 None e = absurd (omega arith)
only_1 (Some NoEvent) e = refl
only_1 (Some OneEvent) e = absurd (omega arith)
only_1 (Some Repeat) e = absurd (omega arith)

module _ (s : List ℕ) where
  pub kept_names : (i : ℕ) → T (kept s i) → T (names_two s i) × (repeat_at s i ≡ false)
  unfolding kept reason_at names_two
  kept_names i t = reason_0 (no_event_at s i) (self_pair_at s i) (repeat_at s i) t

  pub names_kept : (i : ℕ) → T (names_two s i) → repeat_at s i ≡ false → reason_at s i ≡ 0
  unfolding reason_at names_two
  names_kept i t e = is_kept (no_event_at s i) (self_pair_at s i) (repeat_at s i) t e

  pub kept_0 : (i : ℕ) → reason_at s i ≡ 0 → T (kept s i)
  unfolding kept
  kept_0 i e = yes_eqb e

  -- two different events
  pub names_ends : (i : ℕ) → T (names_two s i) → (earlier_at s i < events_of s) × (later_at s i < events_of s) × ¬ (earlier_at s i ≡ later_at s i)
  unfolding names_two no_event_at self_pair_at
  names_ends i t = ends (leb (events_of s) (earlier_at s i)) (leb (events_of s) (later_at s i)) (eqb (earlier_at s i) (later_at s i)) refl refl refl t
    where
      ends : (x y z : Bool) → leb (events_of s) (earlier_at s i) ≡ x → leb (events_of s) (later_at s i) ≡ y → eqb (earlier_at s i) (later_at s i) ≡ z → T (not (x || y) && not z)
          → (earlier_at s i < events_of s) × (later_at s i < events_of s) × ¬ (earlier_at s i ≡ later_at s i)
      ends true y z a b c t = absurd t
      ends false true z a b c t = absurd t
      ends false false true a b c t = absurd t
      ends false false false a b c t = (leb-false _ _ a, leb-false _ _ b, eqb-false _ _ c)

  -- A pair with another reason than 1 names events.
  unless_1 : (i : ℕ) → ¬ (reason_at s i ≡ 1) → (earlier_at s i < events_of s) × (later_at s i < events_of s)
  unfolding reason_at no_event_at
  unless_1 i other = ends (leb (events_of s) (earlier_at s i)) (leb (events_of s) (later_at s i)) refl refl other
    where
      ends : (x y : Bool) → leb (events_of s) (earlier_at s i) ≡ x → leb (events_of s) (later_at s i) ≡ y → ¬ (reason (x || y) (self_pair_at s i) (repeat_at s i) ≡ 1)
          → (earlier_at s i < events_of s) × (later_at s i < events_of s)
      ends true y a b other = absurd (other refl)
      ends false true a b other = absurd (other refl)
      ends false false a b other = (leb-false _ _ a, leb-false _ _ b)

  -- so its ends are numbers of events
  pub ends_few : (i a b : ℕ) (r : Option Reason) → events_of s ≤ most_events → a ≡ earlier_at s i → b ≡ later_at s i → byte_of r ≡ reason_at s i
      → ¬ (r ≡ Some NoEvent) → (a < most_events) × (b < most_events)
  ends_few i a b r few ea eb er other =
      let names = unless_1 i (λ one. other (only_1 r (er ∙ one))) in
      (omega (arith, ea, names.0), omega (arith, eb, names.1))

  -- the same pair names the same events
  pub same_names : (i j : ℕ) → SameEnds s i j → T (names_two s i) → T (names_two s j)
  unfolding names_two no_event_at self_pair_at
  same_names i j same t =
      subst
      T
      (ap₂
      (λ (a b : ℕ). not (leb (events_of s) a || leb (events_of s) b) && not (eqb a b))
      same.earlier
      same.later)
      t

  some_same : (i : ℕ) → T (repeat_at s i) → T (any i (same_pair s i))
  unfolding repeat_at
  some_same i t = t

  -- The first of the same pairs is kept, if they name two different events.
  first_of : (n i : ℕ) → i < n → T (names_two s i) → (j : ℕ) × (j ≤ i) × T (kept s j) × SameEnds s i j
  first_of zero i l t = absurd (omega arith)
  first_of (suc n) i l t =
      ⊎_elim
      (λ again.
      let some = any_yes i (same_pair s i) (some_same i again) in
      let same = same_yes s i some.0 some.2 in
      let found = first_of n some.0 (omega (arith, some.1)) (same_names i some.0 same t) in (
        found.0,
        omega (arith, found.1, some.1),
        found.2,
        record { earlier = same.earlier ∙ found.3.earlier; later = same.later ∙ found.3.later },
      ))
      (λ new. (i, omega arith, kept_0 i (names_kept i t (is_false (repeat_at s i) new)), record { earlier = refl; later = refl }))
      (decide (repeat_at s i))

  pub first_kept : (i : ℕ) → T (names_two s i) → (j : ℕ) × (j ≤ i) × T (kept s j) × SameEnds s i j
  first_kept i t = first_of (suc i) i (omega arith) t

  -- Reason 3, in the request's words: the pair names two different events, and repeats an earlier pair that is kept.
  pub repeats_kept : (i : ℕ) → (reason_at s i ≡ 3) ↔ (T (names_two s i) × ((j : ℕ) × (j < i) × T (kept s j) × SameEnds s i j))
  unfolding reason_at names_two repeat_at
  repeats_kept i = (
    λ e.
        let both = reason_3 (no_event_at s i) (self_pair_at s i) (repeat_at s i) e in
        let some = any_yes i (same_pair s i) (subst T (sym both.1) tt) in
        let same = same_yes s i some.0 some.2 in
        let found = first_kept some.0 (same_names i some.0 same both.0) in
        (both.0, (found.0, omega (arith, found.1, some.1), found.2, record { earlier = same.earlier ∙ found.3.earlier; later = same.later ∙ found.3.later })),
    λ h.
        let j = h.1 in
        is_repeat
        (no_event_at s i)
        (self_pair_at s i)
        (repeat_at s i)
        h.0
        (is_true (repeat_at s i) (yes_any i (same_pair s i) j.0 j.1 (yes_same s i j.0 j.3))),
  )

  -- As sets of pairs, those that are kept are those that name two different events. So their order is the same.
  pub kept_before : (u v : ℕ) → Before (kept_plan s) u v ↔ Before (only_pairs (plan_of s) (names_two s)) u v
  kept_before u v = (
    before_among (kept_plan s) (only_pairs (plan_of s) (names_two s)) (only_among (plan_of s) (kept s) (names_two s) (λ i l t. (i, l, (kept_names i t).0, refl, refl))),
    before_among (only_pairs (plan_of s) (names_two s)) (kept_plan s) (only_among (plan_of s) (names_two s) (kept s) (λ i l t.
        let found = first_kept i t in (found.0, omega (arith, found.1), found.2, found.3.earlier, found.3.later))),
  )

  -- the kept pairs name two different events
  pub kept_ends : (k : ℕ) → k < kept_count s → ((kept_plan s).earlier k < events_of s) × ((kept_plan s).later k < events_of s) × ¬ ((kept_plan s).earlier k ≡ (kept_plan s).later k)
  kept_ends k l = names_ends (chosen_pair (plan_of s) (kept s) k) (kept_names _ (chosen_in (kept s) (pairs_of s) k l).1).0

-- A sheet without fault keeps every pair.
module _ (s : List ℕ) (known : Faultless s) where
  pub all_kept : (i : ℕ) → i < pairs_of s → reason_at s i ≡ 0
  unfolding reason_at
  all_kept i l = simp (names_events s known i l, names_different s known i l, repeats_none s known i l)

  pub same_pairs : SamePairs (kept_plan s) (plan_of s)
  same_pairs = only_all (plan_of s) (kept s) (λ i l. kept_0 s i (all_kept i l))

  pub no_kept_cycle : kept_cycle s ≡ false
  unfolding kept_cycle
  no_kept_cycle =
      nothing_found (events_of s) (λ v. before (kept_plan s) v v) (λ v l.
      before_same (kept_plan s) (plan_of s) (pairs_before (kept_plan s) (plan_of s) same_pairs) v v ∙ known.acyclic v l)
