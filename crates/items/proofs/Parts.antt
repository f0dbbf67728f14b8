-- Faults 5, 6 and 7, one part after another.
use Prim.Native.Nat.{ℕ}
use native.Mathlib.Omega.{arith}
use mathlib.Core.List.{List}
use mathlib.Core.Path.{◌≡◌, ap}
use Rattle.sheet.specs.Told.{tell, or_else, else_last, Told}
use Rattle.sheet.specs.Faults.{over_opening, over_weight, no_transition, number_faults, first_fault}

-- the faults from each number on
abbrev pub from7 : List ℕ → Told
from7 s = tell 7 (no_transition s)

abbrev pub from6 : List ℕ → Told
from6 s = or_else (tell 6 (over_weight s)) (from7 s)

pub from_5 : (s : List ℕ) → first_fault number_faults s ≡ or_else (tell 5 (over_opening s)) (from6 s)
unfolding number_faults first_fault
from_5 s = ap (λ (f : Told). or_else (tell 5 (over_opening s)) (or_else (tell 6 (over_weight s)) f)) (else_last 7 (no_transition s) (omega arith))
