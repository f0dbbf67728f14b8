-- A sheet longer than the longest is refused by its first bytes, one more than the longest sheet has.
use Rattle.std.specs.Prelude.{ℕ, ◌≤◌, List, ◌++◌, ◌≡◌, refl, length}
use Rattle.std.proofs.Common.{arith, sym, ◌∙◌}
use Rattle.std.proofs.Math.Path.{ap}
use Rattle.calls.specs.Call.{row_fault}
use Rattle.calls.proofs.Call.{lower_first}
use Rattle.calls.specs.Overwritten.{at_fault}
use Rattle.calls.specs.Said.{refusal, said_refusal}
use Rattle.sheet.specs.Chain.{first_both}
use Rattle.sheet.specs.Told.{Told, else_first}
use Rattle.sheet.specs.Enough.{enough_bytes, enough}
use Rattle.sheet.proofs.Enough.{by_length, too_long, size, layout_enough}
use Rattle.sheet.specs.Faults.{layout_faults, number_faults, first_fault}
use Rattle.sheet.specs.Table.{pairs_of}
use Rattle.mending.specs.Mended.{kept_faults, mend_faults, sheet_fault, mend_fault, mend_says, clean_after, reasons_after}
use Rattle.mending.specs.Enough.{SameMending}

-- a fault of the layout is the fault of the call, whatever rows are lent
module _ (s clean reasons : List ℕ) (there : ¬ ((first_fault layout_faults s).number ≡ 0)) where
  sheet_is : sheet_fault s ≡ first_fault layout_faults s
  unfolding sheet_fault mend_faults
  sheet_is = first_both layout_faults (number_faults ++ kept_faults) s ∙ else_first (first_fault layout_faults s) _ there

  fault_is : mend_fault s clean reasons ≡ first_fault layout_faults s
  unfolding mend_fault
  fault_is =
      let some : ¬ ((sheet_fault s).number ≡ 0) = λ z. there (ap (λ (f : Told). f.number) (sym sheet_is) ∙ z) in
      let first = lower_first (sheet_fault s) reasons (pairs_of s) some in
      lower_first (row_fault (sheet_fault s) reasons (pairs_of s)) clean (length s) (λ z. some (ap (λ (f : Told). f.number) (sym first) ∙ z)) ∙ first ∙ sheet_is

  refused : ¬ ((mend_fault s clean reasons).number ≡ 0)
  refused z = there (ap (λ (f : Told). f.number) (sym fault_is) ∙ z)

  said_is : mend_says s clean reasons ≡ refusal (first_fault layout_faults s)
  unfolding mend_says
  said_is = said_refusal (mend_fault s clean reasons) _ refused ∙ ap refusal fault_is

  clean_is : clean ≡ clean_after s clean reasons
  unfolding clean_after
  clean_is = at_fault (mend_fault s clean reasons).number _ clean refused

  reasons_is : reasons ≡ reasons_after s clean reasons
  unfolding reasons_after
  reasons_is = at_fault (mend_fault s clean reasons).number _ reasons refused

-- The call says of any bytes, and leaves in the rows, what it does for their first 21,281.
pub mend_enough : (s clean reasons : List ℕ) → SameMending (enough s) s clean reasons
mend_enough s clean reasons = by_length (λ (t : List ℕ). SameMending t s clean reasons) s long (λ _. record { said = refl; clean_row = refl; reasons_row = refl })
  where
    long : enough_bytes ≤ length s → SameMending (enough s) s clean reasons
    long l =
        let whole = too_long s l in
        let part = too_long (enough s) (omega (arith, size s l)) in
        record {
          said = said_is (enough s) clean reasons part ∙ ap refusal (layout_enough s l) ∙ sym (said_is s clean reasons whole);
          clean_row = sym (clean_is (enough s) clean reasons part) ∙ clean_is s clean reasons whole;
          reasons_row = sym (reasons_is (enough s) clean reasons part) ∙ reasons_is s clean reasons whole;
        }
