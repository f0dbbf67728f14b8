-- What a call has to say that mends a sheet, and the rows that it leaves. Document 02, A1.
use Rattle.std.specs.Prelude.{ℕ, List, [], ◌∷◌, ◌++◌, length, drop}
use Rattle.calls.specs.Call.{row_fault}
use Rattle.calls.specs.Overwritten.{overwritten, unless_fault}
use Rattle.calls.specs.Said.{Said, unless_refused}
use Rattle.reasons.specs.Reasons.{reason_at, kept_cycle}
use Rattle.sheet.specs.Told.{Told}
use Rattle.sheet.specs.Faults.{Finder, itemless, layout_faults, number_faults, first_fault}
use Rattle.sheet.specs.Table.{pairs_of}
use Rattle.kept_pairs.specs.Clean.{clean_of}

-- 11, on the pairs kept
unfoldable pub kept_faults : List (ℕ × Finder)
kept_faults = (11, itemless kept_cycle) ∷ []

-- The faults that stand in the way of mending, in their order: all that stand before 8, then 11.
unfoldable pub mend_faults : List (ℕ × Finder)
mend_faults = layout_faults ++ (number_faults ++ kept_faults)

-- those of the sheet alone
unfoldable pub sheet_fault : List ℕ → Told
sheet_fault s = first_fault mend_faults s

-- Then 13: the row of reasons is shorter than the given pairs, or the clean row shorter than the sheet given.
unfoldable pub mend_fault : List ℕ → List ℕ → List ℕ → Told
mend_fault s clean reasons = row_fault (row_fault (sheet_fault s) reasons (pairs_of s)) clean (length s)

-- what the call has to say
unfoldable pub mend_says : List ℕ → List ℕ → List ℕ → Said ℕ
mend_says s clean reasons = unless_refused (mend_fault s clean reasons) (length (clean_of s))

-- the clean row at return: unless the call is faulty, the clean sheet and what stood after it
unfoldable pub clean_after : List ℕ → List ℕ → List ℕ → List ℕ
clean_after s clean reasons = unless_fault (mend_fault s clean reasons).number (clean_of s ++ drop (length (clean_of s)) clean) clean

-- the row of reasons at return: unless the call is faulty, a byte for each given pair and what stood after them
unfoldable pub reasons_after : List ℕ → List ℕ → List ℕ → List ℕ
reasons_after s clean reasons = unless_fault (mend_fault s clean reasons).number (overwritten (reason_at s) (pairs_of s) reasons) reasons
