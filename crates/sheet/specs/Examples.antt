-- Worked examples: the sheet of document 01's listing, what it says, and the small examples of the table of faults.
use Rattle.std.specs.Prelude.{ℕ, ◌+◌, Bool, true, ◌&&◌, List, [], ◌∷◌, ◌++◌, T, eqb, length, set, replicate}
use Rattle.numbers.specs.Number.{number}
use Rattle.finite.specs.Bounded.{any}
use Rattle.finite.specs.First.{first}
use Rattle.plan.specs.Order.{before, before_by}
use Rattle.sheet.specs.Table.{start, count, limit, item_length, item, body_end, due}
use Rattle.sheet.specs.Items.{opening_at, takes_at, gives_at, label_at, earlier_at, later_at, net_of, plan_of}
use Rattle.sheet.specs.Faults.{too_short, over_limit_at, over_limit, misplaced_at, misplaced, late, early, wrong_end, over_opening_at, over_opening, over_weight_at, over_weight_in, over_weight}
use Rattle.sheet.specs.Faults.{no_transition_at, no_transition, no_event_at, no_event, self_pair_at, self_pair, same_pair, repeat_at, repeated, cycle_at}
use Rattle.sheet.specs.Faults.{cyclic, layout_faults, number_faults, pair_faults, order_faults, content_faults, faults, first_fault, fault_of}
use Rattle.sheet.specs.Told.{fault_at, no_fault, or_else, Told}

-- a table of four entries, of numbers below 256: each start and count
table : ℕ → ℕ → ℕ → ℕ → ℕ → ℕ → ℕ → ℕ → List ℕ
table a b c d e f g h =
    (a ∷ 0 ∷ 0 ∷ 0 ∷ b ∷ 0 ∷ 0 ∷ 0 ∷ [])
    ++ (c ∷ 0 ∷ 0 ∷ 0 ∷ d ∷ 0 ∷ 0 ∷ 0 ∷ [])
    ++ (e ∷ 0 ∷ 0 ∷ 0 ∷ f ∷ 0 ∷ 0 ∷ 0 ∷ [])
    ++ (g ∷ 0 ∷ 0 ∷ 0 ∷ h ∷ 0 ∷ 0 ∷ 0 ∷ [])

-- Starts 32, 44, 68, 74; 3 places opening 1, 0, 0; hold takes 1 0 0 gives 0 1 0; sell takes 0 1 0 gives 0 0 1;
-- events 0, 0, 1; and the given pairs.
desk : ℕ → List ℕ → List ℕ
desk pairs given =
    table 32 3 44 2 68 3 74 pairs
    ++ (1 ∷ 0 ∷ 0 ∷ 0 ∷ 0 ∷ 0 ∷ 0 ∷ 0 ∷ 0 ∷ 0 ∷ 0 ∷ 0 ∷ [])
    ++ (1 ∷ 0 ∷ 0 ∷ 0 ∷ 0 ∷ 0 ∷ 0 ∷ 0 ∷ 1 ∷ 0 ∷ 0 ∷ 0 ∷ [])
    ++ (0 ∷ 0 ∷ 1 ∷ 0 ∷ 0 ∷ 0 ∷ 0 ∷ 0 ∷ 0 ∷ 0 ∷ 1 ∷ 0 ∷ [])
    ++ (0 ∷ 0 ∷ 0 ∷ 0 ∷ 1 ∷ 0 ∷ [])
    ++ given

-- the sheet of 78 bytes: pair (0, 2)
listing : List ℕ
listing = desk 1 (0 ∷ 0 ∷ 2 ∷ 0 ∷ [])

-- the listing's sheet with the four bytes at a position changed
put : ℕ → ℕ → ℕ → ℕ → ℕ → List ℕ
put at a b c d = set (set (set (set listing at a) (at + 1) b) (at + 2) c) (at + 3) d

-- sheets, and the fault that each has to have
pub faulty : List (List ℕ × Told)
faulty =
    (listing, no_fault)
    -- the empty sheet
    ∷ ([], fault_at 1 0)
    -- 65 places
    ∷ (put 4 65 0 0 0, fault_at 2 0)
    -- places start at 33, leaving a gap, and at 31
    ∷ (put 0 33 0 0 0, fault_at 14 0)
    ∷ (put 0 31 0 0 0, fault_at 15 0)
    -- the last body starts late, and early
    ∷ (put 24 75 0 0 0, fault_at 14 0)
    ∷ (put 24 73 0 0 0, fault_at 15 0)
    -- the first wrong entry decides: entry 1 late and entry 2 early, entry 1 early and entry 3 late
    ∷ (table 32 3 45 2 68 3 74 1, fault_at 14 0)
    ∷ (table 32 3 43 2 67 3 75 1, fault_at 15 0)
    -- one byte extra
    ∷ (listing ++ (0 ∷ []), fault_at 4 0)
    -- opening count 1,000,001, at the first place and at the last
    ∷ (put 32 65 66 15 0, fault_at 5 0)
    ∷ (put 40 65 66 15 0, fault_at 5 2)
    -- weight 1,001, taken and given
    ∷ (put 44 233 3 0 0, fault_at 6 0)
    ∷ (put 64 0 0 233 3, fault_at 6 1)
    -- an event names transition 2 of two
    ∷ (put 70 0 0 2 0, fault_at 7 2)
    -- (0, 3) and (3, 0) with three events
    ∷ (put 74 0 0 3 0, fault_at 8 0)
    ∷ (put 74 3 0 0 0, fault_at 8 0)
    -- (1, 1)
    ∷ (put 74 1 0 1 0, fault_at 9 0)
    -- (0, 1), (0, 1): the later one
    ∷ (desk 2 (0 ∷ 0 ∷ 1 ∷ 0 ∷ 0 ∷ 0 ∷ 1 ∷ 0 ∷ []), fault_at 10 1)
    -- x, y, y, x: the first pair that repeats an earlier one
    ∷ (desk 4 (0 ∷ 0 ∷ 1 ∷ 0 ∷ 0 ∷ 0 ∷ 2 ∷ 0 ∷ 0 ∷ 0 ∷ 2 ∷ 0 ∷ 0 ∷ 0 ∷ 1 ∷ 0 ∷ []), fault_at 10 2)
    -- (0, 1), (1, 0)
    ∷ (desk 2 (0 ∷ 0 ∷ 1 ∷ 0 ∷ 1 ∷ 0 ∷ 0 ∷ 0 ∷ []), fault_at 11 0)
    -- (0, 1), (1, 2), (2, 0)
    ∷ (desk 3 (0 ∷ 0 ∷ 1 ∷ 0 ∷ 1 ∷ 0 ∷ 2 ∷ 0 ∷ 2 ∷ 0 ∷ 0 ∷ 0 ∷ []), fault_at 11 0)
    -- the first of several items: places 1 and 2, both transitions, events 1 and 2, pairs 1 and 2
    ∷ (set (set (set (put 36 65 66 15 0) 40 65) 41 66) 42 15, fault_at 5 1)
    ∷ (set (set (put 44 233 3 0 0) 56 233) 57 3, fault_at 6 0)
    ∷ (put 70 2 0 2 0, fault_at 7 1)
    ∷ (desk 3 (0 ∷ 0 ∷ 1 ∷ 0 ∷ 0 ∷ 0 ∷ 9 ∷ 0 ∷ 9 ∷ 0 ∷ 0 ∷ 0 ∷ []), fault_at 8 1)
    ∷ (desk 3 (0 ∷ 0 ∷ 1 ∷ 0 ∷ 1 ∷ 0 ∷ 1 ∷ 0 ∷ 2 ∷ 0 ∷ 2 ∷ 0 ∷ []), fault_at 9 1)
    -- the lowest that applies: of 2 and 14, 14 and 4, 15 and 4, 5 and 7, 7 and 8, 8 and 9, 10 and 11
    ∷ (table 33 65 44 2 68 3 74 1, fault_at 2 0)
    ∷ (table 33 3 44 2 68 3 74 1, fault_at 14 0)
    ∷ (table 31 3 44 2 68 3 74 1, fault_at 15 0)
    ∷ (set (put 32 65 66 15 0) 72 2, fault_at 5 0)
    ∷ (set (put 74 0 0 3 0) 72 2, fault_at 7 2)
    ∷ (put 74 3 0 3 0, fault_at 8 0)
    ∷ (desk 3 (0 ∷ 0 ∷ 1 ∷ 0 ∷ 1 ∷ 0 ∷ 0 ∷ 0 ∷ 0 ∷ 0 ∷ 1 ∷ 0 ∷ []), fault_at 10 2)
    -- limits taken: opening count 1,000,000; weight 1,000; 64 transitions; 64 places; 256 events
    ∷ (put 32 64 66 15 0, no_fault)
    ∷ (put 44 232 3 0 0, no_fault)
    ∷ (table 32 0 32 64 32 0 32 0, no_fault)
    ∷ (set (set (set (table 32 64 32 0 32 0 32 0) 9 1) 17 1) 25 1 ++ replicate 256 0, no_fault)
    ∷ (set (set (table 32 0 32 1 32 0 32 0) 21 1) 25 2 ++ replicate 512 0, no_fault)
    -- one more of each: 65 transitions, 257 events, 1,025 pairs
    ∷ (table 32 0 32 65 32 0 32 0, fault_at 2 0)
    ∷ (set (table 32 0 32 0 32 1 32 0) 21 1, fault_at 2 0)
    ∷ (set (table 32 0 32 0 32 0 32 1) 29 4, fault_at 2 0)
    -- no items at all
    ∷ (table 32 0 32 0 32 0 32 0, no_fault)
    ∷ []

-- what is worked out, and what it has to be
pub examples : List (ℕ × ℕ)
examples =
    (length listing, 78)
    -- what the listing's sheet says
    ∷ ((net_of listing).places, 3)
    ∷ ((net_of listing).opening 0, 1)
    ∷ ((net_of listing).opening 1, 0)
    ∷ ((net_of listing).opening 2, 0)
    ∷ ((net_of listing).transitions, 2)
    ∷ ((net_of listing).takes 0 0, 1)
    ∷ ((net_of listing).takes 0 1, 0)
    ∷ ((net_of listing).takes 1 1, 1)
    ∷ ((net_of listing).gives 0 0, 0)
    ∷ ((net_of listing).gives 0 1, 1)
    ∷ ((net_of listing).gives 1 2, 1)
    ∷ ((plan_of listing).events, 3)
    ∷ ((plan_of listing).label 0, 0)
    ∷ ((plan_of listing).label 1, 0)
    ∷ ((plan_of listing).label 2, 1)
    ∷ ((plan_of listing).pairs, 1)
    ∷ ((plan_of listing).earlier 0, 0)
    ∷ ((plan_of listing).later 0, 2)
    -- four bytes, the lowest first
    ∷ ((net_of (put 32 64 66 15 0)).opening 0, 1000000)
    ∷ []

pub right : List (ℕ × ℕ) → Bool
right [] = true
right (x ∷ xs) = eqb x.0 x.1 && right xs

pub told : List (List ℕ × Told) → Bool
told [] = true
told (x ∷ xs) = eqb (fault_of x.0).number x.1.number && eqb (fault_of x.0).item x.1.item && told xs

-- every example comes out right
pub faults_right : T (told faulty)
unfolding told faulty put listing desk table
    number any first before before_by start count limit item_length item body_end due
    opening_at takes_at gives_at label_at earlier_at later_at
    too_short over_limit_at over_limit misplaced_at misplaced late early wrong_end over_opening_at over_opening over_weight_at over_weight_in over_weight
    no_transition_at no_transition no_event_at no_event self_pair_at self_pair same_pair repeat_at repeated cycle_at cyclic
    or_else layout_faults number_faults pair_faults order_faults content_faults faults first_fault fault_of
faults_right = tt

pub examples_right : T (right examples)
unfolding right examples put listing desk table number start count item_length item opening_at takes_at gives_at label_at earlier_at later_at
examples_right = tt
