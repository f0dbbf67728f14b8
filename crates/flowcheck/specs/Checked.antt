-- The answer of the flow check. Document 01, "Flow check": yes exactly if the row is valid.
use Rattle.std.specs.Prelude.{ℕ, Bool, List, ◌≡◌, Result}
use Rattle.plan.specs.Flow.{valid}
use Rattle.sheet.specs.Items.{net_of, plan_of}
use Rattle.sheet.specs.declared.Fault.{Fault}
use Rattle.calls.specs.FlowRow.{flow_of, flow_fault}
use Rattle.calls.specs.Said.{Said, unless_refused, says as says_answer, said_once as said_answer_once}

-- What each case says: the call's fault, or whether the row is valid.
abbrev pub says : Result Bool Fault → Said Bool
says r = says_answer r

-- what the flow check has to say
unfoldable pub check_says : List ℕ → ℕ → List ℕ → Said Bool
check_says s p row = unless_refused (flow_fault s p row) (valid (net_of s) (plan_of s) p (flow_of row))

-- Nothing is left free: answers that say the same are the same.
pub said_once : (r t : Result Bool Fault) → says r ≡ says t → r ≡ t
said_once r t e = said_answer_once r t e
