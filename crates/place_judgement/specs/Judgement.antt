-- The answer of the place judgement and its rows at return. Document 01, "Place judgement", with the spare count of document 02, A3.
use Rattle.std.specs.Prelude.{ℕ, List, ◌≡◌, ℤ, Result}
use Rattle.place.specs.Place.{spare_at}
use Rattle.sheet.specs.Table.{events_of}
use Rattle.calls.specs.Call.{row_fault}
use Rattle.calls.specs.FlowRow.{flow_fault}
use Rattle.calls.specs.Overwritten.{unless_fault}
use Rattle.calls.specs.Said.{Said, unless_refused, says as says_answer, said_once as said_answer_once}
use Rattle.sheet.specs.Told.{Told}
use Rattle.sheet.specs.declared.Fault.{Fault}
use Rattle.handing.specs.Handed.{marks_done, Written}

-- What each case says: the call's fault, or the spare count, with its sign.
abbrev pub says : Result ℤ Fault → Said ℤ
says r = says_answer r

-- Nothing is left free: answers that say the same are the same.
pub said_once : (r t : Result ℤ Fault) → says r ≡ says t → r ≡ t
said_once r t e = said_answer_once r t e

-- the fault of a call that is lent a row of marks besides the flow row
unfoldable pub judge_fault : List ℕ → ℕ → List ℕ → List ℕ → Told
judge_fault s p flow marks = row_fault (flow_fault s p flow) marks (events_of s)

-- what the place judgement has to say
unfoldable pub judgement_says : List ℕ → ℕ → List ℕ → List ℕ → Said ℤ
judgement_says s p flow marks = unless_refused (judge_fault s p flow marks) (spare_at s p)

-- the row of marks at return
unfoldable pub marks_after : List ℕ → ℕ → List ℕ → List ℕ → List ℕ
marks_after s p flow marks =
    unless_fault (judge_fault s p flow marks).number (marks_done s p marks) marks

-- the flow row at return
pub record Handed (s : List ℕ) (p : ℕ) (flow marks flow' : List ℕ) : Type 0 where
  pub fault : ¬ ((judge_fault s p flow marks).number ≡ 0) → flow' ≡ flow
  pub judged : (judge_fault s p flow marks).number ≡ 0 → Written s p flow flow'
