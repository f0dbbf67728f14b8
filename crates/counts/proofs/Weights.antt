-- A sheet without faults: a place opens with at most 1,000,000, and an event names a transition, whose weights are at most 1,000.
use Prim.Native.Nat.{ℕ, ◌<◌, ◌≤◌}
use native.Mathlib.Omega.{arith}
use mathlib.Core.List.{List}
use mathlib.Core.Path.{◌≡◌}
use Rattle.sheet.specs.Table.{places_of, transitions_of, events_of}
use Rattle.sheet.specs.Items.{opening_at, takes_at, gives_at, label_at}
use Rattle.sheet.specs.Faultless.{Faultless}

module _ (s : List ℕ) (known : Faultless s) where
  pub opening_most : (p x : ℕ) → p < places_of s → x ≡ opening_at s p → x ≤ 1000000
  opening_most p x h read = omega (arith, known.openings p h)

  module _ (v t : ℕ) (below : v < events_of s) (label : t ≡ label_at s v) where
    pub named : t < transitions_of s
    named = omega (arith, known.labels v below)

    pub gives_most : (p x : ℕ) → p < places_of s → x ≡ gives_at s t p → x ≤ 1000
    gives_most p x h read = omega (arith, known.gives t p named h)

    pub takes_most : (p x : ℕ) → p < places_of s → x ≡ takes_at s t p → x ≤ 1000
    takes_most p x h read = omega (arith, known.takes t p named h)
