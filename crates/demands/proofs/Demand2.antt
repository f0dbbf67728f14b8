-- The proof of demand 2.
use Rattle.std.specs.Prelude.{ℕ, ◌≤◌, ◌<◌, Bool, true, false, ◌&&◌, ◌↔◌, ◌≡◌, refl, T, eqb, ltb, ℤ, length, Result, Ok, Err}
use Rattle.std.proofs.Common.{eq-zero-or-pos, arith, true≢false, ⊎_elim, sym, subst, ◌∙◌, lt-ltb, ltb→lt}
use Rattle.std.proofs.Math.Bool.{cond}
use mathlib.Core.List.{List}
use Rattle.std.proofs.Math.Option.{none-ne-some, some-injective}
use Rattle.std.proofs.Math.Path.{ap}
use Rattle.std.proofs.Math.ListN.{get_or}
use Rattle.std.specs.Int.Signed.{clash_ℤ}
use Rattle.std.proofs.Math.Facts.{and_yes, yes_and, yes_ltb}
use Rattle.finite.specs.Bounded.{same}
use Rattle.plan.specs.Prefix.{missing, runs_at, smallest}
use Rattle.plan.specs.Flow.{valid}
use Rattle.theory.specs.Smallest.{IsSmallest}
use Rattle.theory.specs.Theorems.{runs_none}
use Rattle.theory.proofs.Theorems.{verdict, smallest_set, spare_count}
use Rattle.sheet.specs.Table.{events_of}
use Rattle.sheet.specs.Items.{net_of, plan_of}
use Rattle.sheet.specs.Faults.{fault_of}
use Rattle.sheet.specs.Faultless.{sound}
use Rattle.sheet.proofs.Faultless.{faultless}
use Rattle.calls.specs.Call.{place_fault}
use Rattle.calls.proofs.Call.{row_known, place_known}
use Rattle.calls.specs.FlowRow.{flow_fault, flow_length, flow_of}
use Rattle.calls.specs.Overwritten.{over_first, at_none}
use Rattle.place.specs.Place.{spare_at}
use Rattle.handing.specs.Handed.{done_mark}
use Rattle.calls.specs.Said.{Said, answer, said_answer, refusal_apart, answer_same}
use Rattle.sheet.specs.declared.Fault.{Fault}
use Rattle.flowcheck.specs.Checked.{check_says, says as saysChecked}
use Rattle.place_judgement.specs.Judgement.{says, judge_fault, judgement_says, marks_after}
use Rattle.demands.proofs.Whole.{plan_tells, till_tells}
use Rattle.demands.specs.Demand2.{done_in, TellsRuns, TellsShort, Published, Demand2}

-- ---- the proof

abbrev is_valid : Result Bool Fault → Bool
is_valid (Err f) = false
is_valid (Ok b) = b

-- an answer by what it says
said_spare : (r : Result ℤ Fault) (x : ℤ) → says r ≡ answer x → r ≡ Ok x
said_spare (Err f) x e = absurd (refusal_apart _ x e)
said_spare (Ok z) x e = ap Ok (answer_same z x e)

yes_by : (r : Result Bool Fault) (b : Bool) → saysChecked r ≡ answer b → (r ≡ Ok true) ↔ T b
yes_by (Err f) b e = absurd (none-ne-some b (ap (λ (said : Said Bool). said.values) e))
yes_by (Ok true) b e = (λ _. subst T (some-injective true b (ap (λ (said : Said Bool). said.values) e)) tt, λ _. refl)
yes_by (Ok false) b e =
    let is = some-injective false b (ap (λ (said : Said Bool). said.values) e) in
    (λ same. absurd (true≢false (sym (ap is_valid same))), λ t. absurd (subst T (sym is) t))

one_is : (b : Bool) → T (eqb (cond {A = ℕ} b 1 0) 1) ↔ T b
one_is true = (λ t. tt, λ t. tt)
one_is false = (λ t. t, λ t. absurd t)

module _ (s : List ℕ) (p : ℕ) (flow marks : List ℕ) (r : Result ℤ Fault) (told : says r ≡ judgement_says s p flow marks) (none : (judge_fault s p flow marks).number ≡ 0) where
  known : ((flow_fault s p flow).number ≡ 0) × (events_of s ≤ length marks)
  unfolding judge_fault
  known = row_known (flow_fault s p flow) marks (events_of s) none

  taken : (fault_of s).number ≡ 0
  unfolding flow_fault
  taken = (place_known s p (row_known (place_fault s p) flow (flow_length s) known.0).0).0

  told_spare : r ≡ Ok (spare_at s p)
  unfolding judgement_says
  told_spare = said_spare r (spare_at s p) (told ∙ said_answer (judge_fault s p flow marks) (spare_at s p) none)

  runs_at_lem : TellsRuns r ↔ T (runs_at (net_of s) (plan_of s) p)
  runs_at_lem =
      let unless = (spare_count (net_of s) (plan_of s) p (sound s (faultless s taken))).runs_unless in
      (λ t. unless.1 (subst TellsRuns told_spare t), λ t. subst TellsRuns (sym told_spare) (unless.0 t))

  short_some : TellsShort r → 0 < missing (net_of s) (plan_of s) p
  short_some t =
      ⊎_elim
      (λ z. clash_ℤ (subst TellsShort told_spare t) (subst TellsRuns told_spare (runs_at_lem.1 ((runs_none (net_of s) (plan_of s) p).1 z))))
      (λ l. l)
      (eq-zero-or-pos (missing (net_of s) (plan_of s) p))

  module _ (short : 0 < missing (net_of s) (plan_of s) p) where
    smallest_known : IsSmallest (net_of s) (plan_of s) p (smallest (net_of s) (plan_of s) p)
    smallest_known = smallest_set (net_of s) (plan_of s) p (sound s (faultless s taken)) short

    mark_is : (v : ℕ) → v < events_of s → get_or (marks_after s p flow marks) v 0 ≡ cond (smallest (net_of s) (plan_of s) p v) 1 0
    unfolding marks_after done_mark
    mark_is v l =
        ap (λ (row : List ℕ). get_or row v 0) (sym (at_none (judge_fault s p flow marks).number _ marks none))
        ∙ over_first (done_mark (net_of s) (plan_of s) p) (events_of s) marks v l (omega (arith, known.1))
        ∙ ap (λ (b : Bool). cond {A = ℕ} (b && smallest (net_of s) (plan_of s) p v) 1 0) (lt-ltb 0 (missing (net_of s) (plan_of s) p) short)

    done_is : (v : ℕ) → smallest (net_of s) (plan_of s) p v ≡ done_in (events_of s) (marks_after s p flow marks) v
    done_is v =
        let D : Bool = smallest (net_of s) (plan_of s) p v in
        let mark = get_or (marks_after s p flow marks) v 0 in
        same
        D
        (done_in (events_of s) (marks_after s p flow marks) v)
        (λ t.
        let l = smallest_known.prefixed.events v t in
        yes_and (ltb v (events_of s)) (eqb mark 1) (yes_ltb {a = v} {b = events_of s} l) (subst (λ (m : ℕ). T (eqb m 1)) (sym (mark_is v l)) ((one_is D).1 t)))
        (λ t.
        let h = and_yes (ltb v (events_of s)) (eqb mark 1) t in
        (one_is D).0 (subst (λ (m : ℕ). T (eqb m 1)) (mark_is v (ltb→lt v (events_of s) h.0)) h.1))

  published : Published s p flow marks r
  published =
      let v = verdict (net_of s) (plan_of s) p (sound s (faultless s taken)) in
      record {
        by_cuts = (λ e. v.by_cuts.0 (runs_at_lem.0 e), λ x. runs_at_lem.1 (v.by_cuts.1 x));
        by_flows = (λ e. v.by_flows.0 (runs_at_lem.0 e), λ x. runs_at_lem.1 (v.by_flows.1 x));
        yes = λ e flow' h. (h.judged none).runs ((runs_none (net_of s) (plan_of s) p).0 (runs_at_lem.0 e));
        no = λ e.
            subst
            (IsSmallest (net_of s) (plan_of s) p)
            (λ i v. done_is (short_some e) v i)
            (smallest_known (short_some e));
      }

check_passes : (s : List ℕ) (p : ℕ) (row : List ℕ) (r : Result Bool Fault) → saysChecked r ≡ check_says s p row → (flow_fault s p row).number ≡ 0
    → (r ≡ Ok true) ↔ T (valid (net_of s) (plan_of s) p (flow_of row))
unfolding check_says
check_passes s p row r told none = yes_by r _ (told ∙ said_answer (flow_fault s p row) _ none)

pub demand_2 : Demand2
demand_2 = record { judged = published; plan = plan_tells; till = till_tells; passed = check_passes }
