-- The answer of the plan judgement and the row that it leaves, at each place where it returns.
use Rattle.std.specs.Prelude.{ℕ, ◌≤◌, List, ◌≡◌, refl, ltb, length, Result, Ok, Err}
use Rattle.std.proofs.Common.{sym, ap, ◌∙◌}
use Rattle.calls.proofs.Call.{row_known}
use Rattle.calls.proofs.Refusal.{row_handed, row_decides}
use Rattle.calls.specs.Overwritten.{overwritten, filled_is, at_fault, at_none}
use Rattle.calls.specs.Said.{said_err, said_ok, answer}
use Rattle.finite.specs.Filled.{Filled}
use Rattle.place.specs.Place.{missing_at}
use Rattle.sheet.specs.Answered.{told, told_some}
use Rattle.sheet.specs.Faultless.{Faultless}
use Rattle.sheet.specs.Faults.{fault_of}
use Rattle.sheet.specs.Table.{places_of}
use Rattle.sheet.specs.Told.{Told, no_fault, tell, plain}
use Rattle.sheet.specs.declared.Fault.{Fault}
use Rattle.summary.specs.Summary.{values_in, values_of, count_at}
use Rattle.summary.specs.declared.Totals.{Totals}
use Rattle.plan_judgement.specs.Judgement.{says, plan_fault, plan_values, plan_says, row_of}
use Rattle.plan_judgement.specs.CountsInRow.{row_values}

-- what is promised of an answer and of the row at return
abbrev pub Answers : List ℕ → List ℕ → List ℕ → Result Totals Fault → Type 0
Answers s row new r = (says r ≡ plan_says s row) × (new ≡ row_of s row)

module _ (s row : List ℕ) where
  refused : (f : Fault) → told f ≡ plan_fault s row → Answers s row row (Err f)
  unfolding plan_says row_of
  refused f is = (
    said_err f (plan_fault s row) (plan_values s) is,
    at_fault (plan_fault s row).number (overwritten (missing_at s) (places_of s) row) row (λ z. told_some f (ap (λ (t : Told). t.number) is ∙ z)),
  )

  -- a fault of the sheet
  pub faulty : (f : Fault) → told f ≡ fault_of s → Answers s row row (Err f)
  unfolding plan_fault
  faulty f is = refused f (row_handed (fault_of s) row (places_of s) f is)

  module _ (clear : no_fault ≡ fault_of s) where
    -- a row that is too short
    pub short : (f : Fault) → told f ≡ tell 13 (plain (ltb (length row) (places_of s))) → Answers s row row (Err f)
    unfolding plan_fault
    short f is = refused f (row_decides (fault_of s) row (places_of s) clear is)

    module _ (room : no_fault ≡ tell 13 (plain (ltb (length row) (places_of s)))) where
      none : no_fault ≡ plan_fault s row
      unfolding plan_fault
      none = row_decides (fault_of s) row (places_of s) clear room

      pub long : places_of s ≤ length row
      unfolding plan_fault
      long = (row_known (fault_of s) row (places_of s) (ap (λ (t : Told). t.number) (sym none))).1

      pub judged : (new : List ℕ) → Filled (missing_at s) (places_of s) row new → (t : Totals) → values_in t ≡ values_of (count_at new) (places_of s) → Faultless s
          → Answers s row new (Ok t)
      unfolding plan_says plan_values row_of
      judged new counted t is known = (
        ap answer (is ∙ row_values s known (places_of s) refl row new counted) ∙ said_ok (plan_fault s row) (plan_values s) none,
        filled_is (missing_at s) (places_of s) row new counted ∙ at_none (plan_fault s row).number (overwritten (missing_at s) (places_of s) row) row (ap (λ (t : Told). t.number) (sym none)),
      )
