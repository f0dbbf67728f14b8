-- Pairs that all go to higher numbers, or all to lower ones, have no cycle: "before" goes the same way.
use Rattle.std.specs.Prelude.{ℕ, Bool, List, ltb, get_or}
use Rattle.finite.specs.Bounded.{all}

unfoldable pub rises_at : List ℕ → List ℕ → ℕ → Bool
rises_at from to i = ltb (get_or from i 0) (get_or to i 0)

-- the first n pairs go to higher numbers
unfoldable pub rising : ℕ → List ℕ → List ℕ → Bool
rising n from to = all n (rises_at from to)
