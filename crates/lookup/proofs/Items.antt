-- The number that stands where the layout says is the item, and an item of the transitions lies within the sheet.
use Prim.Native.Nat.{ℕ, ◌+◌, ◌*◌, ◌<◌, ◌≤◌}
use native.Mathlib.Omega.{arith}
use mathlib.Core.List.{List}
use mathlib.Core.Path.{◌≡◌, ap}
use lib.ListN.{length}
use Rattle.numbers.specs.Number.{number}
use Rattle.sheet.specs.Table.{item, item_length}
use Rattle.sheet.specs.Items.{opening_at, takes_at, gives_at, label_at, earlier_at, later_at}
use Rattle.sheet.specs.Laid.{transition_within}
use Rattle.layout.specs.Layout.{places_at, transitions_at, events_at, pairs_at, LaidBy}
use Rattle.layout.specs.declared.Layout.{Layout}

module _ (s : List ℕ) (l : Layout) (known : LaidBy s l) where
  pub opening_is : (p at : ℕ) → at ≡ places_at l + 4 * p → number 4 s at ≡ opening_at s p
  unfolding opening_at item item_length
  opening_is p at is = rw (is, known.1.places_at_lem)

  pub label_is : (v at : ℕ) → at ≡ events_at l + 2 * v → number 2 s at ≡ label_at s v
  unfolding label_at item item_length
  label_is v at is = rw (is, known.1.events_at_lem)

  pub earlier_is : (i at : ℕ) → at ≡ pairs_at l + 4 * i → number 2 s at ≡ earlier_at s i
  unfolding earlier_at item item_length
  earlier_is i at is = rw (is, known.1.pairs_at_lem)

  pub later_is : (i at : ℕ) → at ≡ pairs_at l + 4 * i + 2 → number 2 s at ≡ later_at s i
  unfolding later_at item item_length
  later_is i at is = rw (is, known.1.pairs_at_lem)

  -- the item of a transition, by where it was found to stand
  module _ (t at : ℕ) (is : at ≡ transitions_at l + 4 * l.places * t) where
    found : at ≡ item s 1 t
    unfolding item item_length
    found = rw (is, known.1.transitions_at_lem, known.1.places)

    pub transition_there : t < l.transitions → at + 4 * l.places ≤ length s
    transition_there h =
        omega (arith, transition_within s known.0 t (omega arith), ap (λ (n : ℕ). 4 * n * t) known.1.places)

    pub takes_is : (p i : ℕ) → i ≡ at + 2 * p → number 2 s i ≡ takes_at s t p
    unfolding takes_at
    takes_is p i there = rw (there, found)

    pub gives_is : (p i : ℕ) → i ≡ at + 2 * (l.places + p) → number 2 s i ≡ gives_at s t p
    unfolding gives_at
    gives_is p i there = rw (there, found, known.1.places)
