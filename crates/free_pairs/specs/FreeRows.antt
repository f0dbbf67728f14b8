-- The free count by rows of marks that say what is before each event.
use Rattle.std.specs.Prelude.{ℕ, List, ◌≡◌}
use Rattle.finite.specs.Sum.{sum}
use Rattle.plan.specs.Net.{Plan}
use Rattle.plan.specs.Order.{Sound, free_count}
use Rattle.mark_count.specs.MarkCount.{marks_of}
use Rattle.closure.specs.PlanRows.{Predecessors}

-- A sound plan of n events whose order is in the rows: row v marks what is before v.
pub record OrderIn (P : Plan) (rows : List ℕ) (n : ℕ) : Type 0 where
  pub sound : Sound P
  pub events : n ≡ P.events
  pub before : Predecessors P rows

-- Some plan's order is in the rows.
abbrev pub SomeOrder : List ℕ → ℕ → Type 0
SomeOrder rows n = (P : Plan) × OrderIn P rows n

-- r is the free count of every plan whose order is in the rows.
abbrev pub FreeBy : List ℕ → ℕ → ℕ → Type 0
FreeBy rows n r = (P : Plan) → OrderIn P rows n → r ≡ free_count P

-- how many marks the first n rows have
unfoldable pub ordered_in : List ℕ → ℕ → ℕ
ordered_in rows n = sum n (marks_of rows)
