-- A row that is cleared.
use Prim.Native.Nat.{ℕ}
use mathlib.Core.List.{List}
use mathlib.Core.Path.{◌≡◌}
use lib.ListN.{replicate}
use Rattle.finite.specs.Row.{zeros}
use Rattle.fold.specs.Written.{Zeros}

pub cleared : (k : ℕ) (row : List ℕ) → row ≡ replicate k 0 → Zeros row
cleared k row is = rw is (record { zero = λ i. zeros k i })
