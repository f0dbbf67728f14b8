-- The reason of a pair. Document 02, A1: "pairs naming no event go, then self-pairs, then repeats after the first". The tests are those of faults 8, 9
-- and 10, so that what is left has none of them.
use Rattle.std.specs.Prelude.{ℕ, Bool, cond, not, ◌&&◌, List, eqb}
use Rattle.finite.specs.Bounded.{any}
use Rattle.plan.specs.Net.{Plan}
use Rattle.plan.specs.OnlyPairs.{only_pairs}
use Rattle.plan.specs.Order.{before}
use Rattle.sheet.specs.Faults.{no_event_at, self_pair_at, repeat_at}
use Rattle.sheet.specs.Items.{plan_of}
use Rattle.sheet.specs.Table.{events_of}

-- the first that applies: 1 it names no event, 2 it is of an event with itself, 3 it repeats an earlier pair; 0 it is kept
abbrev pub reason : Bool → Bool → Bool → ℕ
reason nameless self repeat = cond nameless 1 (cond self 2 (cond repeat 3 0))

unfoldable pub reason_at : List ℕ → ℕ → ℕ
reason_at s i = reason (no_event_at s i) (self_pair_at s i) (repeat_at s i)

-- the pairs that are kept
unfoldable pub kept : List ℕ → ℕ → Bool
kept s i = eqb (reason_at s i) 0

-- the pairs that name two different events, repeats too
unfoldable pub names_two : List ℕ → ℕ → Bool
names_two s i = not (no_event_at s i) && not (self_pair_at s i)

-- the plan with the kept pairs only
abbrev pub kept_plan : List ℕ → Plan
kept_plan s = only_pairs (plan_of s) (kept s)

-- how many are kept
abbrev pub kept_count : List ℕ → ℕ
kept_count s = (kept_plan s).pairs

-- 11, on the pairs kept: their order has a cycle
unfoldable pub kept_cycle : List ℕ → Bool
kept_cycle s = any (events_of s) (λ v. before (kept_plan s) v v)
