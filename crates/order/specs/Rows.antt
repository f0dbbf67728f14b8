-- Rows for the plan of a sheet: blank ones, those that hold its pairs, and those that hold its order.
use Rattle.std.specs.Prelude.{ℕ, ◌<◌, Bool, true, false, List, ◌≡◌, T, get_or, replicate}
use Rattle.ids.specs.Limits.{rows_words}
use Rattle.plan.specs.Net.{Plan}
use Rattle.closure.specs.PlanRows.{Successors, Predecessors, PairRows}
use Rattle.order.specs.declared.Wanted.{Wanted}
use Rattle.order.specs.declared.Wanted.TheVariants.{Nothing, Before, After, Both}

-- a row for each event, with no mark
abbrev pub Blank : List ℕ → Type 0
Blank rows = rows ≡ replicate rows_words 0

-- The first m pairs are marked, and their ends stand in two rows.
pub record PairsHeld (P : Plan) (m : ℕ) (succ from to : List ℕ) : Type 0 where
  pub marks : PairRows P m succ
  pub earlier : (i : ℕ) → i < m → get_or from i 0 ≡ P.earlier i
  pub later : (i : ℕ) → i < m → get_or to i 0 ≡ P.later i

-- One block marks what is after each event, the other what is before it.
pub record OrderRows (P : Plan) (succ pred : List ℕ) : Type 0 where
  pub after : Successors P succ
  pub ahead : Predecessors P pred

-- the rows of what is before are wanted, and those of what is after
abbrev pub wants_ahead : Wanted → Bool
wants_ahead Nothing = false
wants_ahead Before = true
wants_ahead After = false
wants_ahead Both = true

abbrev pub wants_after : Wanted → Bool
wants_after Nothing = false
wants_after Before = false
wants_after After = true
wants_after Both = true

-- They do where that is wanted.
pub record WantedRows (w : Wanted) (P : Plan) (succ pred : List ℕ) : Type 0 where
  pub after : T (wants_after w) → Successors P succ
  pub ahead : T (wants_ahead w) → Predecessors P pred

-- where both are wanted
pub both_wanted : (w : Wanted) (P : Plan) (succ pred : List ℕ) → T (wants_after w) → T (wants_ahead w) → WantedRows w P succ pred → OrderRows P succ pred
both_wanted w P succ pred after ahead rows = record { after = rows.after after; ahead = rows.ahead ahead }
