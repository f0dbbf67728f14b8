-- The fault of a call. Document 01, "Faults of a call": the sheet's own, then 12 and 13.
use Rattle.std.specs.Prelude.{ℕ, Bool, List, leb, ltb, length}
use Rattle.sheet.specs.Table.{places_of}
use Rattle.sheet.specs.Faults.{fault_of}
use Rattle.sheet.specs.Told.{tell, plain, or_else, Told}

-- The lowest number that applies is returned: a lower fault if there is one, else k if the test finds it. Neither 12 nor 13 has an item.
unfoldable pub next_fault : Told → Bool → ℕ → Told
next_fault lower found k = or_else lower (tell k (plain found))

-- 12: place number not in the net
unfoldable pub place_fault : List ℕ → ℕ → Told
place_fault s p = next_fault (fault_of s) (leb (places_of s) p) 12

-- 13: a lent row is too short, looked for after the lower faults
unfoldable pub row_fault : Told → List ℕ → ℕ → Told
row_fault lower row needed = next_fault lower (ltb (length row) needed) 13
