-- What the plan judgement and the till server's call tell is the published verdict on the whole plan.
use Rattle.std.specs.Prelude.{ℕ, ◌+◌, List, ◌↔◌, ◌≡◌, refl, T, Result, Ok, Err}
use Rattle.std.proofs.Common.{eq-zero-or-pos, arith, ⊎_elim, sym, ap, ◌∙◌}
use Rattle.std.proofs.Math.Option.{none-ne-some}
use Rattle.plan.specs.Prefix.{runs}
use Rattle.plan.specs.Cut.{Executable}
use Rattle.theory.specs.Theorems.{runs_none}
use Rattle.theory.proofs.Theorems.{verdict, plan_verdict}
use Rattle.sheet.specs.Table.{places_of}
use Rattle.sheet.specs.Items.{net_of, plan_of}
use Rattle.sheet.specs.Faults.{fault_of}
use Rattle.sheet.specs.Faultless.{sound}
use Rattle.sheet.proofs.Faultless.{faultless}
use Rattle.calls.proofs.Call.{row_known}
use Rattle.calls.specs.Said.{Said, said_answer}
use Rattle.place.specs.Place.{missing_at}
use Rattle.sheet.specs.declared.Fault.{Fault}
use Rattle.summary.specs.declared.Totals.{Totals}
use Rattle.summary.specs.declared.Verdict.{Verdict}
use Rattle.summary.specs.declared.Verdict.TheVariants.{Runs, Short}
use Rattle.summary.specs.Summary.{PlanValues, first_short, short_number, verdict_number, values_of}
use Rattle.summary.specs.Laws.{FirstIn}
use Rattle.summary.proofs.Laws.{runs_number, short_number_lem}
use Rattle.plan_judgement.specs.Judgement.{plan_fault, plan_values, plan_says, says as saysPlan}
use Rattle.plan_judgement.specs.Laws.{runs_told}
use Rattle.till.specs.Till.{till_answer}
use Rattle.reedanchor.specs.Laws.{till_taken}
use Rattle.demands.specs.Returned.{totals_are}
use Rattle.demands.specs.Whole.{FirstShort, TellsVerdict, SaysRuns, SaysShort}

-- ---- the proof, from what the number of the verdict says

module _ (s : List ℕ) (taken : (fault_of s).number ≡ 0) where
  -- the number of the verdict that is due
  abbrev due : ℕ
  due = short_number (first_short (missing_at s) (places_of s))

  at_place : (p : ℕ) → Executable (net_of s) (plan_of s) p ↔ (missing_at s p ≡ 0)
  at_place p =
      let v = verdict (net_of s) (plan_of s) p (sound s (faultless s taken)) in
      let n = runs_none (net_of s) (plan_of s) p in
      (λ x. n.0 (v.by_cuts.1 x), λ e. v.by_cuts.0 (n.1 e))

  first_is : (p : ℕ) → FirstIn (missing_at s) (places_of s) p ↔ FirstShort s p
  first_is p = (
    λ f.
        record {
          place = f.0;
          here = λ x. omega (arith, f.1.short, (at_place p).0 x);
          before = λ q l. (at_place q).1 (f.1.before q l);
        },
    λ f. (
      f.place,
      record {
        short = ⊎_elim (λ z. absurd (f.here ((at_place p).1 z))) (λ l. l) (eq-zero-or-pos (missing_at s p));
        before = λ q l. (at_place q).0 (f.before q l);
      },
    ),
  )

  runs_is : (due ≡ 0) ↔ T (runs (net_of s) (plan_of s))
  unfolding plan_values values_of
  runs_is = runs_told s

  -- a call whose answers tell the number
  tells : {yes : Type 0} {no : ℕ → Type 0} → yes ↔ (due ≡ 0) → ((p : ℕ) → no p ↔ (due ≡ 1000 + p)) → TellsVerdict s yes no
  tells yes-is no-is =
      let v = plan_verdict (net_of s) (plan_of s) (sound s (faultless s taken)) in
      let back : T (runs (net_of s) (plan_of s)) → _ = λ t. yes-is.1 (runs_is.1 t) in
      let short = short_number_lem (missing_at s) (places_of s) in
      record {
        by_cuts = (λ y. v.by_cuts.0 (runs_is.0 (yes-is.0 y)), λ x. back (v.by_cuts.1 x));
        by_flows = (λ y. v.by_flows.0 (runs_is.0 (yes-is.0 y)), λ x. back (v.by_flows.1 x));
        first = λ p. (λ n. (first_is p).0 ((short p).0 ((no-is p).0 n)), λ f. (no-is p).1 ((short p).1 ((first_is p).1 f)));
        no_places = λ empty. yes-is.1 ((runs_number (missing_at s) (places_of s)).1 (λ p l. absurd (omega arith)));
      }

-- a verdict by its number
number_runs : (v : Verdict) → (v ≡ Runs) ↔ (verdict_number v ≡ 0)
number_runs Runs = (λ e. refl, λ e. refl)
number_runs (Short p m) = (λ e. ap verdict_number e, λ e. absurd (omega arith))

number_short : (v : Verdict) (p : ℕ) → ((m : ℕ) × (v ≡ Short (record { 0 = p }) m)) ↔ (verdict_number v ≡ 1000 + p)
number_short Runs p = (λ h. ap verdict_number h.1, λ e. absurd (omega arith))
number_short (Short q m) p = (
  λ h. ap verdict_number h.1,
  λ e. let same : q.0 ≡ p = omega arith in (m, ap (λ (n : ℕ). Short (record { 0 = n }) m) same),
)

-- The plan judgement tells it,
answer_tells : (s row : List ℕ) (r : Result Totals Fault) → saysPlan r ≡ plan_says s row → (plan_fault s row).number ≡ 0 → (fault_of s).number ≡ 0 → TellsVerdict s (SaysRuns r) (SaysShort r)
unfolding plan_says
answer_tells s row (Err f) told clear taken =
    absurd
    (none-ne-some (plan_values s) (ap (λ (said : Said PlanValues). said.values) (told ∙ said_answer (plan_fault s row) (plan_values s) clear)))
answer_tells s row (Ok totals) told clear taken =
    let is = (totals_are s row totals told).0 in
    let v = totals.verdict in
    tells
    s
    taken
    (λ e. sym is ∙ (number_runs v).0 e, λ e. (number_runs v).1 (is ∙ e))
    (λ p. (λ h. sym is ∙ (number_short v p).0 h, λ e. (number_short v p).1 (is ∙ e)))

pub plan_tells : (s row : List ℕ) (r : Result Totals Fault) → saysPlan r ≡ plan_says s row → (plan_fault s row).number ≡ 0 → TellsVerdict s (SaysRuns r) (SaysShort r)
unfolding plan_fault
plan_tells s row r told clear =
    answer_tells s row r told clear (row_known (fault_of s) row (places_of s) clear).0

-- and so does the till server's call, by its number.
pub till_tells : (s : List ℕ) → (fault_of s).number ≡ 0 → TellsVerdict s (till_answer s ≡ 0) (λ p. till_answer s ≡ 1000 + p)
till_tells s taken =
    let is = till_taken s taken in
    tells s taken (λ e. sym is ∙ e, λ e. is ∙ e) (λ p. (λ e. sym is ∙ e, λ e. is ∙ e))
