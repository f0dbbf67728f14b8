-- The answer of the plan judgement and the row that it leaves. Document 01, "Plan judgement" and "Faults of a call".
use Rattle.std.specs.Prelude.{ℕ, List, ◌≡◌, Result}
use Rattle.calls.specs.Call.{row_fault}
use Rattle.calls.specs.Overwritten.{overwritten, unless_fault}
use Rattle.calls.specs.Said.{Said, unless_refused, says_by, said_once_by}
use Rattle.place.specs.Place.{missing_at}
use Rattle.sheet.specs.Faults.{fault_of}
use Rattle.sheet.specs.Table.{places_of}
use Rattle.sheet.specs.Told.{Told}
use Rattle.sheet.specs.declared.Fault.{Fault}
use Rattle.summary.proofs.Laws.{values_once}
use Rattle.summary.specs.Summary.{PlanValues, values_in, values_of}
use Rattle.summary.specs.declared.Totals.{Totals}

-- What each case says: the call's fault, or the values of its totals.
abbrev pub says : Result Totals Fault → Said PlanValues
says = says_by values_in

-- Nothing is left free: answers that say the same are the same.
pub said_once : (r t : Result Totals Fault) → says r ≡ says t → r ≡ t
said_once r t e = said_once_by values_in values_once r t e

-- the fault of the call: the sheet's own, else 13 if the row has fewer numbers than there are places
unfoldable pub plan_fault : List ℕ → List ℕ → Told
plan_fault s row = row_fault (fault_of s) row (places_of s)

-- the values of a sheet: the total missing, the number of short places, and what the verdict says
unfoldable pub plan_values : List ℕ → PlanValues
plan_values s = values_of (missing_at s) (places_of s)

-- what the plan judgement has to say
unfoldable pub plan_says : List ℕ → List ℕ → Said PlanValues
plan_says s row = unless_refused (plan_fault s row) (plan_values s)

-- the row at return: unless the call is faulty, its first numbers, one per place, are the missing counts
unfoldable pub row_of : List ℕ → List ℕ → List ℕ
row_of s row = unless_fault (plan_fault s row).number (overwritten (missing_at s) (places_of s) row) row
