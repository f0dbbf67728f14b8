-- What is known of a sheet that isn't refused, and of a call that isn't. And the converse.
use Rattle.std.specs.Prelude.{ℕ, List, ◌++◌, ◌≡◌, length}
use Rattle.std.proofs.Common.{ap}
use Rattle.calls.specs.Call.{row_fault}
use Rattle.calls.proofs.Call.{row_known}
use Rattle.reasons.specs.Reasons.{kept_cycle}
use Rattle.sheet.specs.Clear.{none_first, absent_both}
use Rattle.sheet.proofs.Clear.{layout_clear, numbers_clear}
use Rattle.sheet.specs.Faultless.{absent}
use Rattle.sheet.proofs.Faultless.{stand, good_numbers}
use Rattle.sheet.specs.Faults.{layout_faults, number_faults}
use Rattle.sheet.specs.Table.{pairs_of}
use Rattle.sheet.specs.Told.{no_fault, plain, plain_none}
use Rattle.mending.specs.Mended.{kept_faults, mend_faults, sheet_fault, mend_fault}
use Rattle.mending.specs.Mendable.{Mendable, CallClear}

pub mendable : (s : List ℕ) → (sheet_fault s).number ≡ 0 → Mendable s
unfolding sheet_fault mend_faults layout_faults number_faults kept_faults
mendable s e =
    let a = absent mend_faults s (tt, (tt, (tt, (tt, (tt, (tt, (tt, (tt, (tt, tt))))))))) e in
    let b = a.1.1.1.1.1 in
    record {
      laid = stand s (a.0, (a.1.0, (a.1.1.0, (a.1.1.1.0, (a.1.1.1.1.0, tt)))));
      numbers = good_numbers s (b.0, (b.1.0, (b.1.1.0, tt)));
      acyclic = plain_none (kept_cycle s) b.1.1.1.0;
    }

pub not_refused : (s : List ℕ) → Mendable s → sheet_fault s ≡ no_fault
unfolding sheet_fault mend_faults kept_faults
not_refused s known =
    let rest = absent_both number_faults kept_faults s (numbers_clear s known.numbers) (ap plain known.acyclic, tt) in
    none_first mend_faults s (absent_both layout_faults (number_faults ++ kept_faults) s (layout_clear s known.laid) rest)

pub call_clear : (s clean reasons : List ℕ) → (mend_fault s clean reasons).number ≡ 0 → CallClear s clean reasons
unfolding mend_fault
call_clear s clean reasons e =
    let last = row_known (row_fault (sheet_fault s) reasons (pairs_of s)) clean (length s) e in
    let first = row_known (sheet_fault s) reasons (pairs_of s) last.0 in
    record { sheet = first.0; reasons_long = first.1; clean_long = last.1 }
