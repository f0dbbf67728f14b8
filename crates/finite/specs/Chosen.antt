-- The numbers below a bound that pass a test, ascending.
use Prim.Native.Nat.{ℕ, zero, suc}
use Rattle.std.specs.Prelude.{Bool, cond}
use mathlib.Core.List.{List, [], ◌∷◌, ◌++◌}

-- the number n, if it passes
abbrev pub if_passes : Bool → ℕ → List ℕ
if_passes b n = cond b (n ∷ []) []

unfoldable pub chosen : ℕ → (ℕ → Bool) → List ℕ
chosen zero f = []
chosen (suc n) f = chosen n f ++ if_passes (f n) n
