-- A mark in common between the row of what is after a and the row of what is before b is an event between a and b.
use Rattle.std.specs.Prelude.{ℕ, ◌≤◌, ◌<◌, Bool, ◌&&◌, List, ◌≡◌, T}
use Rattle.std.proofs.Common.{lt_of_lt_of_le, sym, ap₂, subst}
use Rattle.std.proofs.Math.Facts.{and_yes}
use Rattle.ids.specs.Limits.{most_events}
use Rattle.finite.specs.Bounded.{any, any_yes, yes_any, same}
use Rattle.marks.specs.Marks.{marked, meeting}

-- Here B u v says that u is before v. Only events below n are marked in the row of a.
pub meeting_between : (n : ℕ) (succ pred : List ℕ) (B : ℕ → ℕ → Bool) (a b : ℕ) → n ≤ most_events
    → ((w : ℕ) → w < n → marked succ a w ≡ B a w) → ((w : ℕ) → w < n → marked pred b w ≡ B w b)
    → ((w : ℕ) → w < most_events → T (marked succ a w) → w < n) → meeting succ a pred b ≡ any n (λ w. B a w && B w b)
unfolding meeting
meeting_between n succ pred B a b l after before only = same (any most_events common) (any n between) to from
  where
    common : ℕ → Bool
    common w = marked succ a w && marked pred b w

    between : ℕ → Bool
    between w = B a w && B w b

    to : T (any most_events common) → T (any n between)
    to h =
        let some = any_yes most_events common h in
        let w = some.0 in
        let below = only w some.1 (and_yes (marked succ a w) (marked pred b w) some.2).0 in
        yes_any n between w below (subst T (ap₂ ◌&&◌ (after w below) (before w below)) some.2)

    from : T (any n between) → T (any most_events common)
    from h =
        let some = any_yes n between h in
        let w = some.0 in
        yes_any
        most_events
        common
        w
        (lt_of_lt_of_le some.1 l)
        (subst T (sym (ap₂ ◌&&◌ (after w some.1) (before w some.1))) some.2)
