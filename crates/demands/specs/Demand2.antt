-- Demand 2: what the answers of the place judgement, the plan judgement, the till server's call and the flow check say, for every sheet and
-- every place of it that they take.
use Rattle.std.specs.Prelude.{ℕ, ◌+◌, ◌&&◌, ◌↔◌, ◌≡◌, T, eqb, ltb, ℤ, pos, ◌≤ℤ◌, ◌<ℤ◌, Bool, true, Result, Ok, Err}
use mathlib.Core.List.{List}
use Rattle.std.proofs.Math.ListN.{get_or}
use Rattle.finite.specs.Subset.{Set}
use Rattle.plan.specs.Cut.{Executable}
use Rattle.plan.specs.Flow.{Flow, valid}
use Rattle.theory.specs.Smallest.{IsSmallest}
use Rattle.sheet.specs.Table.{events_of}
use Rattle.sheet.specs.Items.{net_of, plan_of}
use Rattle.sheet.specs.Faults.{fault_of}
use Rattle.calls.specs.FlowRow.{flow_fault, flow_of}
use Rattle.sheet.specs.declared.Fault.{Fault}
use Rattle.summary.specs.declared.Totals.{Totals}
use Rattle.flowcheck.specs.Checked.{check_says, says as saysChecked}
use Rattle.place_judgement.specs.Judgement.{says, judge_fault, judgement_says, marks_after, Handed}
use Rattle.plan_judgement.specs.Judgement.{plan_fault, plan_says, says as saysPlan}
use Rattle.till.specs.Till.{till_answer}
use Rattle.demands.specs.Whole.{TellsVerdict, SaysRuns, SaysShort}

-- the events that a row of marks marks, of the first n
abbrev pub done_in : ℕ → List ℕ → Set
done_in n marks v = ltb v n && eqb (get_or marks v 0) 1

-- What an answer of the place judgement tells: a yes is a spare count that isn't below 0, a no is one below 0.
abbrev pub TellsRuns : Result ℤ Fault → Type 0
TellsRuns (Err f) = ⊥
TellsRuns (Ok z) = pos 0 ≤ℤ z

abbrev pub TellsShort : Result ℤ Fault → Type 0
TellsShort (Err f) = ⊥
TellsShort (Ok z) = z <ℤ pos 0

-- What demand 2 says of an answer of the place judgement.
pub record Published (s : List ℕ) (p : ℕ) (flow marks : List ℕ) (r : Result ℤ Fault) : Type 0 where
  -- "The verdict is the published one for labelled partial orders": yes exactly if every cut is enabled (001, definition 6; 003,
  -- definition 3), and exactly if a valid compact tokenflow exists (003, theorems 2 to 4).
  pub by_cuts : TellsRuns r ↔ Executable (net_of s) (plan_of s) p
  pub by_flows : TellsRuns r ↔ ((x : Flow) × T (valid (net_of s) (plan_of s) p x))
  -- "A yes at a place hands over a valid compact tokenflow,
  pub yes : TellsRuns r → (flow' : List ℕ) → Handed s p flow marks flow' → T (valid (net_of s) (plan_of s) p (flow_of flow'))
  -- a no the smallest done set at which most tokens lack."
  pub no : TellsShort r → IsSmallest (net_of s) (plan_of s) p (done_in (events_of s) (marks_after s p flow marks))

-- Demand 2, of every answer r that says what the call's contract promises.
pub record Demand2 : Type 0 where
  pub judged : (s : List ℕ) (p : ℕ) (flow marks : List ℕ) (r : Result ℤ Fault) → says r ≡ judgement_says s p flow marks → (judge_fault s p flow marks).number ≡ 0
      → Published s p flow marks r
  -- The same verdict on the whole plan, by the plan judgement and by the number that the till server gets.
  pub plan : (s row : List ℕ) (r : Result Totals Fault) → saysPlan r ≡ plan_says s row → (plan_fault s row).number ≡ 0 → TellsVerdict s (SaysRuns r) (SaysShort r)
  pub till : (s : List ℕ) → (fault_of s).number ≡ 0 → TellsVerdict s (till_answer s ≡ 0) (λ p. till_answer s ≡ 1000 + p)
  -- "A flow drawn up elsewhere is passed exactly if valid."
  pub passed : (s : List ℕ) (p : ℕ) (row : List ℕ) (r : Result Bool Fault) → saysChecked r ≡ check_says s p row → (flow_fault s p row).number ≡ 0
      → (r ≡ Ok true) ↔ T (valid (net_of s) (plan_of s) p (flow_of row))
