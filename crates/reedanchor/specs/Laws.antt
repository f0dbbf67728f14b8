-- What the till server's numbers say: 0 that the plan runs, 1,000 to 1,063 the first short place, and any other the sheet's fault, which is
-- never 13. And what the numbers of the plan judgement and of the mending call say that C gets.
use Rattle.std.specs.Prelude.{ℕ, ◌+◌, ◌<◌, List, ◌↔◌, ◌≡◌, T, length, take}
use Rattle.std.proofs.Common.{eq-zero-or-pos, arith, ⊎_elim, sym, subst, ◌∙◌}
use Rattle.std.proofs.Math.Option.{some}
use Rattle.std.proofs.Math.Path.{ap}
use Rattle.plan.specs.Prefix.{runs}
use Rattle.place.specs.Place.{missing_at}
use Rattle.sheet.specs.Table.{places_of}
use Rattle.sheet.specs.Items.{net_of, plan_of}
use Rattle.sheet.specs.Faults.{fault_of}
use Rattle.sheet.proofs.Faultless.{faultless}
use Rattle.sheet.proofs.Located.{fault_most, fault_not_13}
use Rattle.calls.specs.Said.{Said, answer, said_answer, said_refusal, said_clear}
use Rattle.summary.specs.Summary.{PlanValues, short_places, first_short, short_number, first_place, values_of}
use Rattle.summary.specs.Laws.{FirstIn, none_short}
use Rattle.summary.proofs.Laws.{verdict_fits, short_number_lem, not_13, first_told, runs_number}
use Rattle.plan_judgement.specs.Judgement.{plan_fault, plan_values, plan_says}
use Rattle.plan_judgement.specs.Laws.{runs_told}
use Rattle.kept_pairs.specs.Clean.{clean_of}
use Rattle.mending.specs.Mended.{mend_fault, mend_says, clean_after}
use Rattle.mending.specs.Theorems.{Mends}
use Rattle.mending.proofs.Theorems.{mended}
use Rattle.answers.specs.ForC.{PlanTold, MendTold, first_said, value_or}
use Rattle.till.specs.Till.{number_said, till_answer, answers_below}

module _ (s : List ℕ) where
  pub till_refused : ¬ ((fault_of s).number ≡ 0) → till_answer s ≡ (fault_of s).number
  unfolding till_answer
  till_refused there = ap number_said (said_refusal (fault_of s) (plan_values s) there)

  pub till_taken : (fault_of s).number ≡ 0 → till_answer s ≡ short_number (first_short (missing_at s) (places_of s))
  unfolding till_answer plan_values values_of
  till_taken clear = ap number_said (said_answer (fault_of s) (plan_values s) clear)

  by_fault : {X : Type 0} → ((fault_of s).number ≡ 0 → X) → (0 < (fault_of s).number → X) → X
  by_fault taken refused = ⊎_elim taken refused (eq-zero-or-pos (fault_of s).number)

  pub till_fits : till_answer s < answers_below
  till_fits =
      by_fault
      (λ clear. omega (arith, till_taken clear, verdict_fits (missing_at s) (places_of s), (faultless s clear).laid.limited.places))
      (λ there. omega (arith, till_refused (λ clear. omega arith), fault_most s))

  -- 1,000 plus a place's number says that the plan is short, first at that place
  pub till_short : (fault_of s).number ≡ 0 → (p : ℕ) → (till_answer s ≡ 1000 + p) ↔ FirstIn (missing_at s) (places_of s) p
  till_short clear p =
      let told = short_number_lem (missing_at s) (places_of s) p in
      (λ e. told.0 (sym (till_taken clear) ∙ e), λ h. till_taken clear ∙ told.1 h)

  pub till_runs : (till_answer s ≡ 0) ↔ (((fault_of s).number ≡ 0) × T (runs (net_of s) (plan_of s)))
  unfolding plan_values values_of
  till_runs = (
    λ e.
        by_fault
        (λ clear. (clear, (runs_told s).0 (sym (till_taken clear) ∙ e)))
        (λ there. let wrong : ⊥ = omega (arith, till_refused (λ clear. omega arith)) in absurd wrong),
    λ both. till_taken both.0 ∙ (runs_told s).1 both.1,
  )

  pub never_13 : ¬ (till_answer s ≡ 13)
  never_13 e =
      by_fault
      (λ clear. not_13 (missing_at s) (places_of s) (sym (till_taken clear) ∙ e))
      (λ there. fault_not_13 s (sym (till_refused (λ clear. omega arith)) ∙ e))

-- Where the plan judgement returns 0,
module _ (s row : List ℕ) (item total short first : ℕ) (told : PlanTold (plan_says s row) 0 item total short first) where
  pub taken : (plan_fault s row).number ≡ 0
  unfolding plan_says
  taken = said_clear (plan_fault s row) (plan_values s) (sym told.faulty.0)

  says_values : plan_says s row ≡ answer (plan_values s)
  unfolding plan_says
  says_values = said_answer (plan_fault s row) (plan_values s) taken

  short_is : short ≡ short_places (missing_at s) (places_of s)
  unfolding plan_values values_of
  short_is = told.places ∙ ap (λ (said : Said PlanValues). value_or 0 (λ (v : PlanValues). v.short) said.values) says_values

  first_is : first ≡ first_place (first_short (missing_at s) (places_of s))
  unfolding plan_values values_of
  first_is = told.earliest ∙ ap first_said says_values

  -- no short place says that the plan runs,
  pub no_short_place : (short ≡ 0) ↔ T (runs (net_of s) (plan_of s))
  unfolding plan_values values_of
  no_short_place =
      let none = none_short (missing_at s) (places_of s) in
      let nothing = runs_number (missing_at s) (places_of s) in (
        λ e. (runs_told s).0 (nothing.1 (none.0 (sym short_is ∙ e))),
        λ t. short_is ∙ none.1 (nothing.0 ((runs_told s).1 t)),
      )

  -- and where some place is short, the first of them is told.
  pub first_place_told : 0 < short → FirstIn (missing_at s) (places_of s) first
  first_place_told some-short =
      subst (FirstIn (missing_at s) (places_of s)) (sym first_is) (first_told (missing_at s) (places_of s) (omega (arith, short_is)))

-- Where the mending call returns 0, the first bytes of the clean row, as many as it tells, are what mending makes of the sheet.
pub mended_in_c : (s clean reasons : List ℕ) (item written : ℕ) → MendTold (mend_says s clean reasons) 0 item written → Mends s (take written (clean_after s clean reasons))
unfolding mend_says
mended_in_c s clean reasons item written told =
    let clear = said_clear (mend_fault s clean reasons) (length (clean_of s)) (sym told.faulty.0) in
    let says = said_answer (mend_fault s clean reasons) (length (clean_of s)) clear in
    let all : written ≡ length (clean_of s) = told.length ∙ ap (λ (said : Said ℕ). value_or 0 (λ (n : ℕ). n) said.values) says in
    mended s clean reasons written (ap (λ (said : Said ℕ). said.values) says ∙ ap some (sym all))
