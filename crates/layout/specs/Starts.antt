-- Faults 14 and 15 by the starts of the bodies, one after another.
use Rattle.std.specs.Prelude.{ℕ, List, ltb}
use Rattle.sheet.specs.Told.{tell, plain, or_else, Told}
use Rattle.sheet.specs.Faults.{late, early}

-- of one body that starts at a byte and is due at another
unfoldable pub start_fault : ℕ → ℕ → Told
start_fault at due = or_else (tell 14 (plain (ltb due at))) (tell 15 (plain (ltb at due)))

-- of a sheet
unfoldable pub starts_fault : List ℕ → Told
starts_fault s = or_else (tell 14 (plain (late s))) (tell 15 (plain (early s)))
