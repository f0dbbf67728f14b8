-- The faults from 5 on, one part after another.
use Prim.Native.Nat.{ℕ}
use mathlib.Core.List.{List, ◌++◌}
use mathlib.Core.Path.{◌≡◌}
use Rattle.sheet.specs.Chain.{first_both}
use Rattle.sheet.specs.Told.{tell, or_else, Told}
use Rattle.sheet.specs.Faults.{no_event, self_pair, number_faults, pair_faults, order_faults, content_faults, first_fault}

-- the faults from each number on
abbrev pub from9 : List ℕ → Told
from9 s = or_else (tell 9 (self_pair s)) (first_fault order_faults s)

abbrev pub from8 : List ℕ → Told
from8 s = or_else (tell 8 (no_event s)) (from9 s)

pub from_5 : (s : List ℕ) → first_fault content_faults s ≡ or_else (first_fault number_faults s) (from8 s)
unfolding content_faults number_faults pair_faults first_fault
from_5 s = first_both number_faults (pair_faults ++ order_faults) s
