-- The answer of the place judgement and its rows, at each place where it is given.
use Prim.Native.Nat.{ℕ, ◌<◌, ◌≤◌}
use mathlib.Core.List.{List}
use mathlib.Core.Path.{◌≡◌, refl, sym, ap, ◌∙◌}
use lib.Dec.{leb, ltb}
use lib.IntN.{ℤ}
use lib.ListN.{length}
use Rattle.std.specs.Prelude.{Result, Ok, Err}
use Rattle.sheet.specs.Answered.{told, told_some}
use Rattle.sheet.specs.Table.{places_of, events_of}
use Rattle.sheet.specs.Faults.{fault_of}
use Rattle.sheet.specs.Told.{Told, no_fault, tell, plain}
use Rattle.sheet.specs.declared.Fault.{Fault}
use Rattle.calls.specs.Call.{place_fault}
use Rattle.calls.specs.FlowRow.{flow_length, flow_fault}
use Rattle.calls.specs.Overwritten.{at_fault, at_none}
use Rattle.calls.specs.Said.{answer, said_err, said_ok}
use Rattle.calls.proofs.Call.{place_known, row_known}
use Rattle.calls.proofs.Refusal.{place_handed, place_decides, row_handed, row_decides}
use Rattle.place.specs.Place.{spare_at}
use Rattle.handing.specs.Handed.{marks_done, Written}
use Rattle.place_judgement.specs.Judgement.{says, judge_fault, judgement_says, marks_after, Handed}

module _ (s : List ℕ) (p : ℕ) (flow marks : List ℕ) where
  -- what is promised of an answer and of the rows at return
  pub record Answered (r : Result ℤ Fault) (flow' marks' : List ℕ) : Type 0 where
    pub said : says r ≡ judgement_says s p flow marks
    pub marked : marks' ≡ marks_after s p flow marks
    pub handed : Handed s p flow marks flow'

  refused : {r : Result ℤ Fault} (f : Fault) → r ≡ Err f → told f ≡ judge_fault s p flow marks → Answered r flow marks
  unfolding judgement_says marks_after
  refused f e is =
      let there : ¬ ((judge_fault s p flow marks).number ≡ 0) = λ z. told_some f (ap (λ (t : Told). t.number) is ∙ z) in
      record {
        said = ap says e ∙ said_err f _ _ is;
        marked = at_fault (judge_fault s p flow marks).number _ marks there;
        handed = record { fault = λ _. refl; judged = λ z. absurd (there z) };
      }

  -- the sheet has a fault
  pub sheet_refused : {r : Result ℤ Fault} (f : Fault) → r ≡ Err f → told f ≡ fault_of s → Answered r flow marks
  unfolding judge_fault flow_fault
  sheet_refused f e is = refused f e (row_handed _ marks _ f (row_handed _ flow _ f (place_handed s p f is)))

  module _ (none : no_fault ≡ fault_of s) where
    -- or the place isn't in the net
    pub place_refused : {r : Result ℤ Fault} (f : Fault) → r ≡ Err f → told f ≡ tell 12 (plain (leb (places_of s) p)) → Answered r flow marks
    unfolding judge_fault flow_fault
    place_refused f e is = refused f e (row_handed _ marks _ f (row_handed _ flow _ f (place_decides s p none is)))

    module _ (here : no_fault ≡ tell 12 (plain (leb (places_of s) p))) where
      place : no_fault ≡ place_fault s p
      place = place_decides s p none here

      pub known : p < places_of s
      known = (place_known s p (sym (ap (λ (t : Told). t.number) place))).1

      -- or the flow row is too short
      pub flow_refused : {r : Result ℤ Fault} (f : Fault) → r ≡ Err f → told f ≡ tell 13 (plain (ltb (length flow) (flow_length s))) → Answered r flow marks
      unfolding judge_fault flow_fault
      flow_refused f e is = refused f e (row_handed _ marks _ f (row_decides _ flow _ place is))

      module _ (room : no_fault ≡ tell 13 (plain (ltb (length flow) (flow_length s)))) where
        lent : no_fault ≡ flow_fault s p flow
        unfolding flow_fault
        lent = row_decides _ flow _ place room

        pub flow_long : flow_length s ≤ length flow
        unfolding flow_fault
        flow_long = (row_known (place_fault s p) flow (flow_length s) (sym (ap (λ (t : Told). t.number) lent))).1

        -- or the row of marks
        pub marks_refused : {r : Result ℤ Fault} (f : Fault) → r ≡ Err f → told f ≡ tell 13 (plain (ltb (length marks) (events_of s))) → Answered r flow marks
        unfolding judge_fault
        marks_refused f e is = refused f e (row_decides _ marks _ lent is)

        module _ (last : no_fault ≡ tell 13 (plain (ltb (length marks) (events_of s)))) where
          clear : no_fault ≡ judge_fault s p flow marks
          unfolding judge_fault
          clear = row_decides _ marks _ lent last

          number : (judge_fault s p flow marks).number ≡ 0
          number = sym (ap (λ (t : Told). t.number) clear)

          pub marks_long : events_of s ≤ length marks
          unfolding judge_fault
          marks_long = (row_known (flow_fault s p flow) marks (events_of s) number).1

          -- or the place is judged
          pub judged : {flow' marks' : List ℕ} {z : ℤ} → z ≡ spare_at s p → marks' ≡ marks_done s p marks → Written s p flow flow' → Answered (Ok z) flow' marks'
          unfolding judgement_says marks_after
          judged is done written =
              record {
                said = ap answer is ∙ said_ok _ _ clear;
                marked = done ∙ at_none (judge_fault s p flow marks).number _ marks number;
                handed = record { fault = λ there. absurd (there number); judged = λ _. written };
              }
