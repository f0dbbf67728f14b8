-- What is known of the pairs once one more is looked at, and once all are.
use Prim.Native.Nat.{ℕ, ◌+◌, ◌≤◌}
use native.Mathlib.Numerals.{add-one}
use native.Mathlib.Omega.{arith}
use mathlib.Core.Bool.{Bool, true, ◌&&◌}
use mathlib.Core.List.{List}
use mathlib.Core.Path.{◌≡◌, refl, sym}
use lib.Dec.{ltb}
use lib.ListN.{get_or}
use Rattle.finite.specs.Bounded.{all}
use Rattle.finite.specs.Search.{all_start}
use Rattle.rising.specs.Rising.{rises_at, rising}

module _ (from to : List ℕ) where
  pub rising_start : true ≡ rising 0 from to
  unfolding rising
  rising_start = sym (all_start (rises_at from to))

  pub rising_more : (i : ℕ) (up : Bool) → up ≡ rising i from to → (up && ltb (get_or from i 0) (get_or to i 0)) ≡ rising (i + 1) from to
  unfolding rising rises_at all
  rising_more i up so_far = rw (so_far, add-one) refl

  pub rising_done : (i n : ℕ) (up : Bool) → up ≡ rising i from to → i ≤ n → n ≤ i → up ≡ rising n from to
  rising_done i n up so_far l k = let same : n ≡ i = omega arith in rw same so_far
