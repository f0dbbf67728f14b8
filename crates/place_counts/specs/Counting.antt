-- What counting at all places of a sheet asks for, and what it tells.
use Rattle.std.specs.Prelude.{ℕ, List, ◌≤◌, Bool, Option, length}
use Rattle.finite.specs.Filled.{Filled}
use Rattle.closure.specs.PlanRows.{Predecessors}
use Rattle.sheet.specs.Faultless.{Faultless}
use Rattle.sheet.specs.Items.{plan_of}
use Rattle.sheet.specs.Table.{places_of}
use Rattle.place_counts.specs.Asked.{asked_at}
use Rattle.place_counts.specs.First.{FirstTo}

-- a sheet without fault, its predecessors, and a row with a number for each place
abbrev pub Countable : List ℕ → List ℕ → List ℕ → Type 0
Countable s pred row = Faultless s × Predecessors (plan_of s) pred × (places_of s ≤ length row)

-- the count of each place in the row, and the done set of the first short one
abbrev pub Counted : List ℕ → Bool → List ℕ → List ℕ → Option (List ℕ) → Type 0
Counted s least row row' first = Filled (asked_at least s) (places_of s) row row' × FirstTo s (places_of s) first
