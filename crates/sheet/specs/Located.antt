-- What the fault of a sheet says of it. Document 02, A2: which item is at fault, the first one, and where a body starts late or early.
use Rattle.std.specs.Prelude.{ℕ, ◌<◌, true, List, ◌≡◌}
use Rattle.finite.specs.First.{FirstOf}
use Rattle.sheet.specs.Table.{start, due, places_of, transitions_of, events_of, pairs_of}
use Rattle.sheet.specs.Faults.{too_short, over_limit, misplaced_at, wrong_end, over_opening_at, over_weight_in}
use Rattle.sheet.specs.Faults.{no_transition_at, no_event_at, self_pair_at, repeat_at, cyclic}

-- The fault k of a sheet s, beside the item i: each number with what it says. 3, 12 and 13 are no fault of a sheet.
pub data FaultSays (s : List ℕ) : ℕ → ℕ → Type 0 where
  fault_none : FaultSays s 0 0
  fault_1 : too_short s ≡ true → FaultSays s 1 0
  fault_2 : over_limit s ≡ true → FaultSays s 2 0
  -- the first entry whose start is wrong starts above what is due, or below it
  fault_14 : (e : ℕ) → FirstOf 4 (misplaced_at s) e → due s e < start s e → FaultSays s 14 0
  fault_15 : (e : ℕ) → FirstOf 4 (misplaced_at s) e → start s e < due s e → FaultSays s 15 0
  fault_4 : wrong_end s ≡ true → FaultSays s 4 0
  -- the item is at fault, and nothing below it is
  fault_5 : (p : ℕ) → FirstOf (places_of s) (over_opening_at s) p → FaultSays s 5 p
  fault_6 : (t : ℕ) → FirstOf (transitions_of s) (over_weight_in s) t → FaultSays s 6 t
  fault_7 : (v : ℕ) → FirstOf (events_of s) (no_transition_at s) v → FaultSays s 7 v
  fault_8 : (i : ℕ) → FirstOf (pairs_of s) (no_event_at s) i → FaultSays s 8 i
  fault_9 : (i : ℕ) → FirstOf (pairs_of s) (self_pair_at s) i → FaultSays s 9 i
  fault_10 : (i : ℕ) → FirstOf (pairs_of s) (repeat_at s) i → FaultSays s 10 i
  fault_11 : cyclic s ≡ true → FaultSays s 11 0
