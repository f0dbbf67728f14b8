-- Each count that is returned is the missing count of the definition, and C gets the same.
use Rattle.std.specs.Prelude.{ℕ, ◌<◌, ◌≡◌, ℤ, neg_ℤ, Ok}
use Rattle.std.proofs.Common.{arith, sym, subst, ◌∙◌}
use mathlib.Core.List.{List}
use Rattle.std.proofs.Math.Path.{ap}
use Rattle.std.proofs.Math.ListN.{get_or}
use Rattle.plan.specs.Prefix.{above0, missing}
use Rattle.theory.specs.Spare.{missing_spare}
use Rattle.sheet.specs.Faults.{fault_of}
use Rattle.sheet.specs.Table.{places_of}
use Rattle.sheet.specs.Items.{net_of, plan_of}
use Rattle.calls.proofs.Call.{row_known}
use Rattle.calls.specs.Overwritten.{overwritten, over_first, at_none}
use Rattle.ids.specs.declared.Place.{Place}
use Rattle.place.specs.Place.{missing_at}
use Rattle.summary.specs.declared.Totals.{Totals}
use Rattle.summary.specs.declared.Verdict.TheVariants.{Short}
use Rattle.summary.specs.Laws.{VerdictSays}
use Rattle.summary.proofs.Laws.{verdict_says}
use Rattle.plan_judgement.specs.Judgement.{plan_fault, plan_says, row_of, says as saysPlan}
use Rattle.answers.specs.ForC.{PlanTold}
use Rattle.reedanchor.specs.Laws.{taken}
use Rattle.demands.specs.Returned.{Returned, by_place, by_row, by_verdict, totals_are, spare_is}

module _ (s : List ℕ) where
  row_is : (p : ℕ) (row : List ℕ) → (plan_fault s row).number ≡ 0 → p < places_of s → get_or (row_of s row) p 0 ≡ missing_at s p
  unfolding plan_fault row_of
  row_is p row clear place =
      let long = (row_known (fault_of s) row (places_of s) clear).1 in
      ap (λ (r : List ℕ). get_or r p 0) (sym (at_none (plan_fault s row).number (overwritten (missing_at s) (places_of s) row) row clear))
      ∙ over_first (missing_at s) (places_of s) row p place (omega (arith, long))

  verdict_is : (p : Place) (m : ℕ) (row : List ℕ) (totals : Totals) → saysPlan (Ok totals) ≡ plan_says s row → totals.verdict ≡ Short p m → missing_at s p.0 ≡ m
  verdict_is p m row totals told short =
      (subst (VerdictSays (missing_at s) (places_of s)) short (verdict_says (missing_at s) (places_of s) totals.verdict (totals_are s row totals told))).1

  -- Each count is the missing count of the definition.
  pub count_is : (p m : ℕ) → Returned s p m → m ≡ missing (net_of s) (plan_of s) p
  count_is p m (by_place q z given) = ap (λ (y : ℤ). above0 (neg_ℤ y)) (spare_is s q z given) ∙ sym (missing_spare (net_of s) (plan_of s) q)
  count_is p m (by_row q row clear place) = row_is p row clear place
  count_is p m (by_verdict q k row totals told short) = sym (verdict_is q k row totals told short)

-- and where the plan judgement does, each place's number in the row is.
pub count_in_c : (s row : List ℕ) (item total short first : ℕ) → PlanTold (plan_says s row) 0 item total short first → (p : ℕ) → p < places_of s → Returned s p (get_or (row_of s row) p 0)
count_in_c s row item total short first told p place = by_row p row (taken s row item total short first told) place
