-- A row of marks as a set of events.
use Rattle.std.specs.Prelude.{ℕ, ◌<◌, Bool, ◌&&◌, List, ◌≡◌, T, ltb}
use Rattle.std.proofs.Math.Path.{sym, ap}
use Rattle.std.proofs.Common.{◌∙◌, lt-ltb}
use Rattle.std.proofs.Math.Dec.{ltb→lt}
use Rattle.std.proofs.Math.Facts.{and_yes, yes_and, yes_ltb}
use Rattle.finite.specs.Subset.{Set}
use Rattle.ids.specs.Limits.{most_events}
use Rattle.marks.specs.Marks.{marked}

-- the events that row 0 marks
unfoldable pub members : List ℕ → Set
members row v = ltb v most_events && marked row 0 v

abbrev pub In : List ℕ → ℕ → Type 0
In row v = T (members row v)

abbrev pub Empty : List ℕ → Type 0
Empty row = (v : ℕ) → In row v → ⊥

-- All that row i of `rows` marks is in the set.
abbrev pub AllIn : List ℕ → ℕ → List ℕ → Type 0
AllIn rows i row = (v : ℕ) → v < most_events → T (marked rows i v) → In row v

module _ (row : List ℕ) (v : ℕ) where
  pub in_below : In row v → v < most_events
  unfolding members
  in_below h = ltb→lt v most_events (and_yes (ltb v most_events) (marked row 0 v) h).0

  pub in_marked : In row v → T (marked row 0 v)
  unfolding members
  in_marked h = (and_yes (ltb v most_events) (marked row 0 v) h).1

  pub marked_in : v < most_events → T (marked row 0 v) → In row v
  unfolding members
  marked_in l h = yes_and (ltb v most_events) (marked row 0 v) (yes_ltb {a = v} {b = most_events} l) h

  -- whether v is of the set, by the test of its mark
  pub member_told : (b : Bool) {a : Bool} → v < most_events → a ≡ marked row 0 v → a ≡ b → members row v ≡ b
  unfolding members
  member_told b l is e = ap (λ (x : Bool). x && marked row 0 v) (lt-ltb v most_events l) ∙ sym is ∙ e
