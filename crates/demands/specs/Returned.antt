-- The counts that the calls return, and what they are: each is the missing count or the spare count of its place.
use Rattle.std.specs.Prelude.{ℕ, ◌<◌, ◌≡◌, refl, ℤ, pos, neg_ℤ, Result, Ok}
use Rattle.std.proofs.Common.{sym, ◌∙◌}
use mathlib.Core.List.{List}
use Rattle.std.proofs.Math.Option.{some}
use Rattle.std.proofs.Math.Path.{ap}
use Rattle.std.proofs.Math.ListN.{get_or}
use Rattle.plan.specs.Prefix.{above0}
use Rattle.sheet.specs.Faults.{fault_of}
use Rattle.sheet.specs.Table.{places_of, events_of}
use Rattle.sheet.specs.declared.Fault.{Fault}
use Rattle.sheet.specs.Told.{Told}
use Rattle.calls.specs.Call.{place_fault}
use Rattle.calls.proofs.Call.{row_known, place_known}
use Rattle.calls.specs.FlowRow.{flow_fault, flow_length}
use Rattle.calls.specs.Said.{Said, answer, unless_refused, values_said, values_clear, said_answer, said_clear}
use Rattle.ids.specs.declared.Place.{Place}
use Rattle.place.specs.Place.{missing_at, spare_at}
use Rattle.summary.specs.declared.Totals.{Totals}
use Rattle.summary.specs.declared.Verdict.TheVariants.{Short}
use Rattle.summary.specs.Summary.{VerdictOf, PlanValues, values_in, values_of}
use Rattle.place_judgement.specs.Judgement.{says, judge_fault, judgement_says}
use Rattle.plan_judgement.specs.Judgement.{plan_fault, plan_values, plan_says, row_of, says as saysPlan}
use Rattle.answers.specs.ForC.{PlaceTold, value_or}

-- A plan is taken if its sheet has no fault of its own.
abbrev pub Taken : List ℕ → Type 0
Taken s = (fault_of s).number ≡ 0

-- The spare count given for the place p of the sheet s: the one from the place judgement. What the calls return is told by their contracts:
-- `judgement_says` by that of `judge_place`, `plan_says` and `row_of` by that of `judge_plan`.
pub record SpareReturned (s : List ℕ) (p : ℕ) (z : ℤ) : Type 0 where
  pub flow : List ℕ
  pub marks : List ℕ
  pub answer : Result ℤ Fault
  pub told : says answer ≡ judgement_says s p flow marks
  pub values : (says answer).values ≡ some z

-- The missing count given for it.
pub data Returned (s : List ℕ) : ℕ → ℕ → Type 0 where
  -- the one from the place judgement, which is the negative of its spare count, or 0 where that isn't below 0 (document 02, A3),
  by_place : (p : ℕ) (z : ℤ) → SpareReturned s p z → Returned s p (above0 (neg_ℤ z))
  -- and equally the place's number in the plan judgement's row,
  by_row : (p : ℕ) (row : List ℕ) → (plan_fault s row).number ≡ 0 → p < places_of s → Returned s p (get_or (row_of s row) p 0)
  -- and, for the first short place, the count in its verdict
  by_verdict : (p : Place) (m : ℕ) (row : List ℕ) (totals : Totals) → saysPlan (Ok totals) ≡ plan_says s row → totals.verdict ≡ Short p m
      → Returned s p.0 m

-- the totals that the plan judgement answers with have the values that are due
pub totals_are : (s row : List ℕ) (totals : Totals) → saysPlan (Ok totals) ≡ plan_says s row → VerdictOf (missing_at s) (places_of s) totals.verdict
unfolding plan_says plan_values values_of
totals_are s row totals told =
    let all = values_said (plan_fault s row) (plan_values s) (values_in totals) (ap (λ (said : Said PlanValues). said.values) (sym told)) in
    (ap (λ (v : PlanValues). v.number) (sym all), ap (λ (v : PlanValues). v.count) (sym all))

module _ (s : List ℕ) where
  module _ (p : ℕ) (z : ℤ) (given : SpareReturned s p z) where
    fault : Told
    fault = judge_fault s p given.flow given.marks

    due : (unless_refused fault (spare_at s p)).values ≡ some z
    unfolding fault judgement_says
    due = ap (λ (said : Said ℤ). said.values) (sym given.told) ∙ given.values

    -- A spare count is the one of the definition,
    pub spare_is : z ≡ spare_at s p
    spare_is = sym (values_said fault (spare_at s p) z due)

    -- and the place is one of the sheet.
    pub place_is : p < places_of s
    unfolding fault judge_fault flow_fault
    place_is =
        let flow = row_known (flow_fault s p given.flow) given.marks (events_of s) (values_clear fault (spare_at s p) z due) in
        (place_known s p (row_known (place_fault s p) given.flow (flow_length s) flow.0).0).1

-- C gets the same counts: where the place judgement returns 0, the spare count behind the pointer is one that is given,
pub spare_in_c : (s : List ℕ) (p : ℕ) (flow marks : List ℕ) (item : ℕ) (z : ℤ) → PlaceTold (judgement_says s p flow marks) 0 item z → SpareReturned s p z
unfolding judgement_says
spare_in_c s p flow marks item z told =
    let clear = said_clear (judge_fault s p flow marks) (spare_at s p) (sym told.faulty.0) in
    let due = said_answer (judge_fault s p flow marks) (spare_at s p) clear in
    let is : z ≡ spare_at s p = told.count ∙ ap (λ (said : Said ℤ). value_or (pos 0) (λ (y : ℤ). y) said.values) due in
    record { flow = flow; marks = marks; answer = Ok z; told = ap (λ (y : ℤ). answer y) is ∙ sym due; values = refl }
