-- The faults that stand in the way of mending, one part after another, and what is known where there is none.
use Prim.Native.Nat.{ℕ}
use native.Mathlib.Omega.{arith}
use mathlib.Core.List.{List, ◌++◌}
use mathlib.Core.Path.{◌≡◌, refl, sym, ap, ◌∙◌}
use Rattle.reasons.specs.Reasons.{kept_cycle}
use Rattle.sheet.specs.Chain.{first_both, here, later}
use Rattle.sheet.specs.Answered.{told, told_some}
use Rattle.sheet.specs.declared.Fault.{Fault}
use Rattle.sheet.specs.Told.{no_fault, Told, tell, plain, or_else, else_last}
use Rattle.sheet.specs.Faults.{layout_faults, number_faults, first_fault}
use Rattle.mending.specs.Mended.{kept_faults, mend_faults, sheet_fault}

-- the faults from 11 and from 5 on
abbrev pub from11 : List ℕ → Told
from11 s = tell 11 (plain (kept_cycle s))

abbrev pub from5 : List ℕ → Told
from5 s = or_else (first_fault number_faults s) (from11 s)

last_part : (s : List ℕ) → first_fault kept_faults s ≡ from11 s
unfolding kept_faults first_fault
last_part s = else_last 11 (plain (kept_cycle s)) (omega arith)

pub from_1 : (s : List ℕ) → sheet_fault s ≡ or_else (first_fault layout_faults s) (from5 s)
unfolding sheet_fault mend_faults
from_1 s =
    first_both layout_faults (number_faults ++ kept_faults) s
    ∙ ap (or_else (first_fault layout_faults s)) (first_both number_faults kept_faults s ∙ ap (or_else (first_fault number_faults s)) (last_part s))

-- a sheet whose layout has no fault is read as it is, and the rest decide
module _ (s r : List ℕ) (no_layout : no_fault ≡ first_fault layout_faults s) (same : r ≡ s) where
  no_4 : sheet_fault s ≡ from5 r
  no_4 = later _ (from_1 s) no_layout refl ∙ ap from5 (sym same)

  pub by_number : (f : Fault) → told f ≡ first_fault number_faults r → told f ≡ sheet_fault s
  by_number f is = here _ no_4 is (told_some f)

  pub by_cycle : {t : Told} → no_fault ≡ first_fault number_faults r → t ≡ from11 r → t ≡ sheet_fault s
  by_cycle no_number is = is ∙ sym (later _ no_4 no_number refl)

pub by_layout : (s : List ℕ) (f : Fault) → told f ≡ first_fault layout_faults s → told f ≡ sheet_fault s
by_layout s f is = here _ (from_1 s) is (told_some f)
