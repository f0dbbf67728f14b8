-- Each link of a chain of tests agrees with the call's fault: the fault that a test finds is told where the lower tests found none, and is handed on.
use Rattle.std.specs.Prelude.{ℕ, ◌<◌, Bool, false, List, ◌≡◌, leb, length}
use Rattle.std.proofs.Common.{refl, sym, ap, ◌∙◌}
use Rattle.std.proofs.Math.Dec.{ltb}
use Rattle.sheet.specs.Answered.{told, told_some}
use Rattle.sheet.specs.Faults.{fault_of}
use Rattle.sheet.specs.Table.{places_of}
use Rattle.sheet.specs.Told.{Told, no_fault, tell, plain, tell_none, plain_none, else_next}
use Rattle.sheet.specs.declared.Fault.{Fault}
use Rattle.calls.specs.Call.{next_fault, place_fault, row_fault}
use Rattle.calls.proofs.Call.{lower_told}

-- a lower fault that was found is handed on
pub handed_on : (f : Fault) (lower : Told) (found : Bool) (k : ℕ) → told f ≡ lower → told f ≡ next_fault lower found k
handed_on f lower found k is =
    is ∙ sym (lower_told lower found k (λ z. told_some f (ap (λ (t : Told). t.number) is ∙ z)))

-- where the lower tests found none, the next decides
pub next_decides : {t : Told} (lower : Told) (found : Bool) (k : ℕ) → no_fault ≡ lower → t ≡ tell k (plain found) → t ≡ next_fault lower found k
unfolding next_fault
next_decides lower found k clear is = is ∙ sym (else_next lower (tell k (plain found)) (ap (λ (t : Told). t.number) (sym clear)))

module _ (s : List ℕ) (p : ℕ) where
  pub place_handed : (f : Fault) → told f ≡ fault_of s → told f ≡ place_fault s p
  unfolding place_fault
  place_handed f is = handed_on f (fault_of s) (leb (places_of s) p) 12 is

  pub place_decides : {t : Told} → no_fault ≡ fault_of s → t ≡ tell 12 (plain (leb (places_of s) p)) → t ≡ place_fault s p
  unfolding place_fault
  place_decides clear is = next_decides (fault_of s) (leb (places_of s) p) 12 clear is

module _ (lower : Told) (row : List ℕ) (needed : ℕ) where
  pub row_handed : (f : Fault) → told f ≡ lower → told f ≡ row_fault lower row needed
  unfolding row_fault
  row_handed f is = handed_on f lower (ltb (length row) needed) 13 is

  pub row_decides : {t : Told} → no_fault ≡ lower → t ≡ tell 13 (plain (ltb (length row) needed)) → t ≡ row_fault lower row needed
  unfolding row_fault
  row_decides clear is = next_decides lower (ltb (length row) needed) 13 clear is

-- a test that finds no fault says no
pub untold : (k : ℕ) (b : Bool) → 0 < k → no_fault ≡ tell k (plain b) → b ≡ false
untold k b l is = plain_none b (tell_none k (plain b) l is refl)
