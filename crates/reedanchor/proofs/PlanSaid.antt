-- What the plan judgement says, in numbers: the till server's number is that of its answer for a row with a number for each place that a sheet
-- may have, and the first short place that it tells is small.
use Prim.Native.Nat.{ℕ, ◌≤◌}
use native.Mathlib.Nat.{eq-zero-or-pos}
use native.Mathlib.Omega.{arith}
use mathlib.Core.List.{List}
use mathlib.Core.Logic.{⊎_elim}
use mathlib.Core.Path.{◌≡◌, sym, ap, ◌∙◌}
use lib.ListN.{length}
use Rattle.ids.specs.Limits.{most_places}
use Rattle.sheet.specs.Table.{places_of}
use Rattle.sheet.specs.Faults.{fault_of}
use Rattle.sheet.proofs.Faultless.{faultless}
use Rattle.calls.proofs.Call.{lower_first, long_row, row_known}
use Rattle.calls.specs.Said.{said_answer, said_refusal}
use Rattle.sheet.specs.Told.{Told}
use Rattle.plan_judgement.specs.Judgement.{plan_fault, plan_values, plan_says}
use Rattle.place.specs.Place.{missing_at}
use Rattle.summary.proofs.Laws.{first_fits}
use Rattle.summary.specs.Summary.{values_of}
use Rattle.answers.specs.ForC.{first_said}
use Rattle.till.specs.Till.{number_said, till_answer}

module _ (s row : List ℕ) (long : most_places ≤ length row) where
  -- fault 13 can't arise
  same_number : (plan_fault s row).number ≡ (fault_of s).number
  unfolding plan_fault
  same_number =
      ⊎_elim
      (λ clear.
      ap (λ (f : Told). f.number) (long_row (fault_of s) row (places_of s) clear (omega (arith, (faultless s clear).laid.limited.places))) ∙ sym clear)
      (λ there. ap (λ (f : Told). f.number) (lower_first (fault_of s) row (places_of s) (λ clear. omega arith)))
      (eq-zero-or-pos (fault_of s).number)

  pub till_is : number_said (plan_says s row) ≡ till_answer s
  unfolding plan_says till_answer
  till_is =
      ⊎_elim
      (λ clear.
      ap number_said (said_answer (plan_fault s row) (plan_values s) (same_number ∙ clear) ∙ sym (said_answer (fault_of s) (plan_values s) clear)))
      (λ there.
      ap number_said (said_refusal (plan_fault s row) (plan_values s) (λ clear. omega (arith, same_number)))
      ∙ same_number
      ∙ sym (ap number_said (said_refusal (fault_of s) (plan_values s) (λ clear. omega arith))))
      (eq-zero-or-pos (fault_of s).number)

module _ (s row : List ℕ) where
  among_places : (plan_fault s row).number ≡ 0 → (plan_values s).first ≤ most_places
  unfolding plan_fault plan_values values_of
  among_places clear =
      omega (arith, first_fits (missing_at s) (places_of s), (faultless s (row_known (fault_of s) row (places_of s) clear).0).laid.limited.places)

  pub first_small : first_said (plan_says s row) ≤ most_places
  unfolding plan_says
  first_small =
      ⊎_elim
      (λ clear. omega (arith, ap first_said (said_answer (plan_fault s row) (plan_values s) clear), among_places clear))
      (λ there. omega (arith, ap first_said (said_refusal (plan_fault s row) (plan_values s) (λ clear. omega arith))))
      (eq-zero-or-pos (plan_fault s row).number)
