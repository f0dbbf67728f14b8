-- How many pairs of two numbers below a bound stand in a relation.
use Prim.Native.Nat.{ℕ}
use Rattle.std.specs.Prelude.{Bool, not, ◌&&◌}
use Rattle.finite.specs.Count.{count}
use Rattle.finite.specs.Sum.{sum}

-- Each pair is counted once, with its lower number first.
unfoldable pub count_pairs : ℕ → (ℕ → ℕ → Bool) → ℕ
count_pairs n R = sum n (λ v. count v (λ u. R u v))

-- neither of two is B of the other
abbrev pub neither : (ℕ → ℕ → Bool) → ℕ → ℕ → Bool
neither B u v = not (B u v) && not (B v u)
