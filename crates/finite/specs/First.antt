-- The first number below a bound that passes a test, if there is one.
use Prim.Native.Nat.{ℕ, zero, suc, ◌<◌}
use Rattle.std.specs.Prelude.{Bool, true, false, ◌≡◌}
use Rattle.std.proofs.Math.Option.{Option, none, some}

-- what was found, else n if it passes
abbrev pub or_here : Option ℕ → Bool → ℕ → Option ℕ
or_here (some i) passes n = some i
or_here none true n = some n
or_here none false n = none

-- the least number below n that passes
unfoldable pub first : ℕ → (ℕ → Bool) → Option ℕ
first zero f = none
first (suc n) f = or_here (first n f) (f n) n

-- i is below n and passes, and nothing below it does.
pub record FirstOf (n : ℕ) (f : ℕ → Bool) (i : ℕ) : Type 0 where
  pub below : i < n
  pub passes : f i ≡ true
  pub before : (j : ℕ) → j < i → f j ≡ false
