-- What mending gives, for all bytes. Document 02, A1: the clean sheet has no fault, mending it again changes nothing, and its "before" is that of all the given
-- pairs that name two different events, repeats too.
use Rattle.std.specs.Prelude.{ℕ, ◌<◌, ◌≤◌, ◌↔◌, ◌≡◌, length}
use mathlib.Core.List.{List}
use Rattle.plan.specs.Compare.{SameNet, SameEvents, SamePairs}
use Rattle.plan.specs.OnlyPairs.{only_pairs}
use Rattle.plan.specs.Order.{Before}
use Rattle.reasons.specs.Reasons.{reason_at, names_two, kept_plan}
use Rattle.sheet.specs.Faults.{fault_of}
use Rattle.sheet.specs.Items.{net_of, plan_of}
use Rattle.sheet.specs.Table.{pairs_of}
use Rattle.sheet.specs.Told.{no_fault}
use Rattle.kept_pairs.specs.Clean.{clean_of}
use Rattle.mending.specs.Mended.{sheet_fault}

-- A sheet that comes back unchanged: nothing stands in the way, it is its own clean sheet, and every pair is kept.
pub record Unchanged (s : List ℕ) : Type 0 where
  pub taken : sheet_fault s ≡ no_fault
  pub same : clean_of s ≡ s
  pub all_kept : (i : ℕ) → i < pairs_of s → reason_at s i ≡ 0

-- The sheet t is what mending makes of the sheet s.
pub record Mends (s t : List ℕ) : Type 0 where
  pub no_fault_lem : fault_of t ≡ no_fault
  -- mending it again gives the same sheet, and the reasons are all 0
  pub again : Unchanged t
  -- "before" is the transitive closure of the given pairs that name two different events
  pub order : (u v : ℕ) → Before (plan_of t) u v ↔ Before (only_pairs (plan_of s) (names_two s)) u v
  -- net, events and labels are those given
  pub net : SameNet (net_of t) (net_of s)
  pub events : SameEvents (plan_of t) (plan_of s)
  -- the pairs are those kept, in their order
  pub pairs : SamePairs (plan_of t) (kept_plan s)
  -- and it is no longer than the sheet given
  pub no_longer : length t ≤ length s
