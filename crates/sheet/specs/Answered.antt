-- What a fault and the answer of a test say. Document 01, "How to write each place": where an answer is an enum, a definition gives the fault's
-- number and its item (document 02, A2) for each of the enum's cases, and the promises use it.
use Rattle.std.specs.Prelude.{ℕ, cond, eqb, Result, Ok, Err, ◌≡◌, refl}
use Rattle.std.proofs.Common.{arith, ap, sym, ◌∙◌}
use Rattle.sheet.specs.Told.{Told, fault_at, no_fault}
use Rattle.sheet.specs.declared.Fault.{Fault}
use Rattle.sheet.specs.declared.Fault.TheVariants.{TooShort, OverLimit, StartsLate, StartsEarly, WrongEnd, OverOpening, OverWeight}
use Rattle.sheet.specs.declared.Fault.TheVariants.{NoTransition, NoEvent, SelfPair, Repeated, Cycle, NoPlace, ShortRow}

-- the number of each fault and the item at fault, 0 where the fault has none
abbrev pub told : Fault → Told
told TooShort = fault_at 1 0
told OverLimit = fault_at 2 0
told WrongEnd = fault_at 4 0
told (OverOpening p) = fault_at 5 p
told (OverWeight t) = fault_at 6 t
told (NoTransition v) = fault_at 7 v
told (NoEvent i) = fault_at 8 i
told (SelfPair i) = fault_at 9 i
told (Repeated i) = fault_at 10 i
told Cycle = fault_at 11 0
told NoPlace = fault_at 12 0
told ShortRow = fault_at 13 0
told StartsLate = fault_at 14 0
told StartsEarly = fault_at 15 0

-- what a test says: no fault, or the one it found
abbrev pub told_by : {A : Type 0} → Result A Fault → Told
told_by (Ok x) = no_fault
told_by (Err f) = told f

-- A fault that is found has a number above 0.
pub told_some : (f : Fault) → ¬ ((told f).number ≡ 0)
told_some TooShort e = absurd (omega arith)
told_some OverLimit e = absurd (omega arith)
told_some WrongEnd e = absurd (omega arith)
told_some (OverOpening p) e = absurd (omega arith)
told_some (OverWeight t) e = absurd (omega arith)
told_some (NoTransition v) e = absurd (omega arith)
told_some (NoEvent i) e = absurd (omega arith)
told_some (SelfPair i) e = absurd (omega arith)
told_some (Repeated i) e = absurd (omega arith)
told_some Cycle e = absurd (omega arith)
told_some NoPlace e = absurd (omega arith)
told_some ShortRow e = absurd (omega arith)
told_some StartsLate e = absurd (omega arith)
told_some StartsEarly e = absurd (omega arith)

-- the fault that has a number and an item
numbered : ℕ → ℕ → Fault
numbered n i =
    cond (eqb n 1) TooShort (
    cond (eqb n 2) OverLimit (
    cond (eqb n 4) WrongEnd (
    cond (eqb n 5) (OverOpening i) (
    cond (eqb n 6) (OverWeight i) (
    cond (eqb n 7) (NoTransition i) (
    cond (eqb n 8) (NoEvent i) (
    cond (eqb n 9) (SelfPair i) (
    cond (eqb n 10) (Repeated i) (
    cond (eqb n 11) Cycle (
    cond (eqb n 12) NoPlace (
    cond (eqb n 13) ShortRow (
    cond (eqb n 14) StartsLate (
    StartsEarly)))))))))))))

numbered_told : (f : Fault) → numbered (told f).number (told f).item ≡ f
unfolding numbered
numbered_told TooShort = refl
numbered_told OverLimit = refl
numbered_told WrongEnd = refl
numbered_told (OverOpening p) = refl
numbered_told (OverWeight t) = refl
numbered_told (NoTransition v) = refl
numbered_told (NoEvent i) = refl
numbered_told (SelfPair i) = refl
numbered_told (Repeated i) = refl
numbered_told Cycle = refl
numbered_told NoPlace = refl
numbered_told ShortRow = refl
numbered_told StartsLate = refl
numbered_told StartsEarly = refl

-- Faults that say the same are the same.
pub told_once : (f g : Fault) → told f ≡ told g → f ≡ g
told_once f g e = sym (numbered_told f) ∙ ap (λ (t : Told). numbered t.number t.item) e ∙ numbered_told g
