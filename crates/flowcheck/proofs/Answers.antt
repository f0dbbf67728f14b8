-- The answer of the flow check, at each place where it is given.
use Prim.Native.Nat.{ℕ, ◌<◌, ◌≤◌}
use mathlib.Core.Bool.{Bool}
use mathlib.Core.List.{List}
use mathlib.Core.Path.{◌≡◌, sym, ap, ◌∙◌}
use lib.Dec.{leb, ltb}
use lib.ListN.{length}
use Rattle.std.specs.Prelude.{Result, Err}
use Rattle.plan.specs.Flow.{valid}
use Rattle.sheet.specs.Items.{net_of, plan_of}
use Rattle.sheet.specs.Table.{places_of}
use Rattle.sheet.specs.Told.{Told, no_fault, tell, plain}
use Rattle.sheet.specs.Faults.{fault_of}
use Rattle.sheet.specs.Answered.{told}
use Rattle.sheet.specs.declared.Fault.{Fault}
use Rattle.calls.specs.Call.{place_fault}
use Rattle.calls.specs.FlowRow.{flow_length, flow_of, flow_fault}
use Rattle.calls.specs.Said.{answer, said_err, said_ok}
use Rattle.calls.proofs.Call.{place_known, row_known}
use Rattle.calls.proofs.Refusal.{place_handed, place_decides, row_handed, row_decides}
use Rattle.flowcheck.specs.Checked.{says, check_says}

module _ (s : List ℕ) (p : ℕ) (row : List ℕ) where
  refused : {r : Result Bool Fault} (f : Fault) → r ≡ Err f → told f ≡ flow_fault s p row → says r ≡ check_says s p row
  unfolding check_says
  refused f e is = ap says e ∙ said_err f _ _ is

  -- the sheet has a fault
  pub sheet_refused : {r : Result Bool Fault} (f : Fault) → r ≡ Err f → told f ≡ fault_of s → says r ≡ check_says s p row
  unfolding flow_fault
  sheet_refused f e is = refused f e (row_handed _ row _ f (place_handed s p f is))

  module _ (none : no_fault ≡ fault_of s) where
    -- or the place isn't in the net
    pub place_refused : {r : Result Bool Fault} (f : Fault) → r ≡ Err f → told f ≡ tell 12 (plain (leb (places_of s) p)) → says r ≡ check_says s p row
    unfolding flow_fault
    place_refused f e is = refused f e (row_handed _ row _ f (place_decides s p none is))

    module _ (here : no_fault ≡ tell 12 (plain (leb (places_of s) p))) where
      place : no_fault ≡ place_fault s p
      place = place_decides s p none here

      pub known : p < places_of s
      known = (place_known s p (sym (ap (λ (t : Told). t.number) place))).1

      -- or the row is too short
      pub room_refused : {r : Result Bool Fault} (f : Fault) → r ≡ Err f → told f ≡ tell 13 (plain (ltb (length row) (flow_length s))) → says r ≡ check_says s p row
      unfolding flow_fault
      room_refused f e is = refused f e (row_decides _ row _ place is)

      module _ (room : no_fault ≡ tell 13 (plain (ltb (length row) (flow_length s)))) where
        clear : no_fault ≡ flow_fault s p row
        unfolding flow_fault
        clear = row_decides _ row _ place room

        pub long : flow_length s ≤ length row
        unfolding flow_fault
        long = (row_known (place_fault s p) row (flow_length s) (sym (ap (λ (t : Told). t.number) clear))).1

        -- or the rules decide
        pub checked : {b : Bool} → b ≡ valid (net_of s) (plan_of s) p (flow_of row) → answer b ≡ check_says s p row
        unfolding check_says
        checked is = ap answer is ∙ said_ok _ _ clear
