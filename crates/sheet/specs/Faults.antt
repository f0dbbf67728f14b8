-- The faults of a sheet. Document 01, "Faults of a call", and document 02, A2: each as a finder of its item, and the order in which they are told.
use Rattle.std.specs.Prelude.{ℕ, Bool, false, not, ◌&&◌, ◌||◌, List, [], ◌∷◌, ◌++◌, leb, ltb, eqb, length}
use Rattle.std.proofs.Math.Option.{Option, none, some}
use Rattle.finite.specs.Bounded.{any}
use Rattle.finite.specs.First.{first}
use Rattle.plan.specs.Order.{before}
use Rattle.sheet.specs.Table.{table_length, start, count, limit, body_end, due, places_of, transitions_of, events_of, pairs_of}
use Rattle.sheet.specs.Items.{opening_at, takes_at, gives_at, label_at, earlier_at, later_at, plan_of}
use Rattle.sheet.specs.Told.{no_fault, tell, plain, or_else, Told}

-- 1: fewer bytes than the table has
unfoldable pub too_short : List ℕ → Bool
too_short s = ltb (length s) table_length

-- 2: an item count above its limit
unfoldable pub over_limit_at : List ℕ → ℕ → Bool
over_limit_at s e = ltb (limit e) (count s e)

unfoldable pub over_limit : List ℕ → Bool
over_limit s = any 4 (over_limit_at s)

-- 14 and 15 are decided at the first entry whose body's start isn't the end of what precedes it.
unfoldable pub misplaced_at : List ℕ → ℕ → Bool
misplaced_at s e = not (eqb (start s e) (due s e))

unfoldable pub misplaced : List ℕ → Option ℕ
misplaced s = first 4 (misplaced_at s)

-- 14: that body starts late, leaving a gap
abbrev pub late_at : List ℕ → Option ℕ → Bool
late_at s none = false
late_at s (some e) = ltb (due s e) (start s e)

unfoldable pub late : List ℕ → Bool
late s = late_at s (misplaced s)

-- 15: that body starts early, running into the one before
abbrev pub early_at : List ℕ → Option ℕ → Bool
early_at s none = false
early_at s (some e) = ltb (start s e) (due s e)

unfoldable pub early : List ℕ → Bool
early s = early_at s (misplaced s)

-- 4: the sheet doesn't end with its last body
unfoldable pub wrong_end : List ℕ → Bool
wrong_end s = not (eqb (length s) (body_end s 3))

-- 5: opening count above 1,000,000; the item is the place
unfoldable pub over_opening_at : List ℕ → ℕ → Bool
over_opening_at s p = ltb 1000000 (opening_at s p)

unfoldable pub over_opening : List ℕ → Option ℕ
over_opening s = first (places_of s) (over_opening_at s)

-- 6: weight above 1,000; the item is the transition
unfoldable pub over_weight_at : List ℕ → ℕ → ℕ → Bool
over_weight_at s t p = ltb 1000 (takes_at s t p) || ltb 1000 (gives_at s t p)

unfoldable pub over_weight_in : List ℕ → ℕ → Bool
over_weight_in s t = any (places_of s) (over_weight_at s t)

unfoldable pub over_weight : List ℕ → Option ℕ
over_weight s = first (transitions_of s) (over_weight_in s)

-- 7: event names no transition; the item is the event
unfoldable pub no_transition_at : List ℕ → ℕ → Bool
no_transition_at s v = leb (transitions_of s) (label_at s v)

unfoldable pub no_transition : List ℕ → Option ℕ
no_transition s = first (events_of s) (no_transition_at s)

-- 8: pair names no event; the item is the pair
unfoldable pub no_event_at : List ℕ → ℕ → Bool
no_event_at s i = leb (events_of s) (earlier_at s i) || leb (events_of s) (later_at s i)

unfoldable pub no_event : List ℕ → Option ℕ
no_event s = first (pairs_of s) (no_event_at s)

-- 9: pair of an event with itself; the item is the pair
unfoldable pub self_pair_at : List ℕ → ℕ → Bool
self_pair_at s i = eqb (earlier_at s i) (later_at s i)

unfoldable pub self_pair : List ℕ → Option ℕ
self_pair s = first (pairs_of s) (self_pair_at s)

-- 10: pair given twice; the item is the first pair that repeats an earlier one
unfoldable pub same_pair : List ℕ → ℕ → ℕ → Bool
same_pair s j i = eqb (earlier_at s i) (earlier_at s j) && eqb (later_at s i) (later_at s j)

unfoldable pub repeat_at : List ℕ → ℕ → Bool
repeat_at s j = any j (same_pair s j)

unfoldable pub repeated : List ℕ → Option ℕ
repeated s = first (pairs_of s) (repeat_at s)

-- 11: the order has a cycle
unfoldable pub cycle_at : List ℕ → ℕ → Bool
cycle_at s v = before (plan_of s) v v

unfoldable pub cyclic : List ℕ → Bool
cyclic s = any (events_of s) (cycle_at s)

-- A finder gives the first item at fault, if there is one.
abbrev pub Finder : Type 0
Finder = List ℕ → Option ℕ

-- a fault that has no item, by its test
abbrev pub itemless : (List ℕ → Bool) → Finder
itemless test s = plain (test s)

-- The faults, each with its number and the finder of its item, in the order in which they are looked for: first where the bodies stand,
unfoldable pub layout_faults : List (ℕ × Finder)
layout_faults =
    (1, itemless too_short) ∷ (2, itemless over_limit) ∷ (14, itemless late) ∷ (15, itemless early) ∷ (4, itemless wrong_end) ∷ []

-- and only once those are absent what stands in them: first in the numbers before the pairs,
unfoldable pub number_faults : List (ℕ × Finder)
number_faults = (5, over_opening) ∷ (6, over_weight) ∷ (7, no_transition) ∷ []

-- then in each pair,
unfoldable pub pair_faults : List (ℕ × Finder)
pair_faults = (8, no_event) ∷ (9, self_pair) ∷ []

-- then in the pairs together.
unfoldable pub order_faults : List (ℕ × Finder)
order_faults = (10, repeated) ∷ (11, itemless cyclic) ∷ []

unfoldable pub content_faults : List (ℕ × Finder)
content_faults = number_faults ++ pair_faults ++ order_faults

unfoldable pub faults : List (ℕ × Finder)
faults = layout_faults ++ content_faults

-- the first fault of a list that a sheet has
unfoldable pub first_fault : List (ℕ × Finder) → List ℕ → Told
first_fault [] s = no_fault
first_fault (f ∷ fs) s = or_else (tell f.0 (f.1 s)) (first_fault fs s)

-- the fault of a sheet
unfoldable pub fault_of : List ℕ → Told
fault_of s = first_fault faults s
