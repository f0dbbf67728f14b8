-- Document 01's starred examples, all twelve in one list, with their spare counts, and what it and 003 show of the order: one theorem for
-- each list.
use Rattle.std.specs.Prelude.{ℕ, Bool, true, false, ◌&&◌, List, [], ◌∷◌, ◌≡◌, refl, T, eqb, ltb, ℤ, pos, negsuc, get_or, length}
use Rattle.std.specs.Bool.{beq}
use Rattle.std.specs.Int.Signed.{le_z}
use Rattle.finite.specs.Bounded.{all, any, ◌⇒◌}
use Rattle.finite.specs.Count.{count}
use Rattle.finite.specs.Pairs.{count_pairs}
use Rattle.finite.specs.Subset.{Set, greatest, every}
use Rattle.finite.specs.Sum.{sum, over, at_end}
use Rattle.plan.specs.Net.{Net, Plan}
use Rattle.plan.specs.Order.{before, before_by, skeleton, independent, free_count}
use Rattle.plan.specs.Prefix.{prefix, front, tokens, lack, missing, need, least_opening, spare, smallest, end_count, runs_at}
use Rattle.plan.specs.Flow.{Flow, inflow, outflow, shares, rule1, rule2, rule3, rule4, valid, otherwise_valid, overrun}

-- two numbers: an event as takes/gives, or a pair as (earlier, later)
abbrev pub Two : Type 0
Two = ℕ × ℕ

-- A row of the table: one place, a transition for each event. The flow row is a witness: it overruns by the missing count. Document 02, A3,
-- adds the spare count.
pub record Example : Type 0 where
  pub opening : ℕ
  pub events : List Two
  pub pairs : List Two
  pub missing : ℕ
  pub done : List ℕ
  pub spare : ℤ
  pub flow : List ℕ

abbrev row : ℕ → List Two → List Two → ℕ → List ℕ → ℤ → List ℕ → Example
row o es ps m d z x = record { opening = o; events = es; pairs = ps; missing = m; done = d; spare = z; flow = x }

abbrev net_of : Example → Net
net_of e =
    record {
      places = 1;
      transitions = length e.events;
      opening = λ p. e.opening;
      takes = λ t p. (get_or e.events t (0, 0)).0;
      gives = λ t p. (get_or e.events t (0, 0)).1;
    }

abbrev plan_of : Example → Plan
plan_of e =
    record {
      events = length e.events;
      label = λ v. v;
      pairs = length e.pairs;
      earlier = λ i. (get_or e.pairs i (0, 0)).0;
      later = λ i. (get_or e.pairs i (0, 0)).1;
    }

holds : List ℕ → Set
holds [] v = false
holds (x ∷ xs) v = elim (eqb x v) [ true ↦ true | false ↦ holds xs v ]

-- a row of numbers as a list, 0 past its end
abbrev at : List ℕ → ℕ → ℕ
at xs i = get_or xs i 0

-- the missing count is the table's
right_count : Example → Bool
right_count e = eqb (missing (net_of e) (plan_of e) 0) e.missing

-- where something is missing, the smallest done set of that lack is the table's
right_set : Example → Bool
right_set e =
    ltb 0 e.missing ⇒ all (length e.events) (λ v. beq (smallest (net_of e) (plan_of e) 0 v) (holds e.done v))

-- the least opening count is what the flow's shares come to
right_least : Example → Bool
right_least e = eqb (least_opening (net_of e) (plan_of e) 0) (shares (plan_of e) (at e.flow))

-- the spare count is the one beside it
right_spare : Example → Bool
right_spare e = le_z (spare (net_of e) (plan_of e) 0) e.spare && le_z e.spare (spare (net_of e) (plan_of e) 0)

-- the flow is otherwise valid and overruns by the missing count; it is valid exactly if the plan runs
right_flow : Example → Bool
right_flow e =
    let x : Flow = at e.flow in
    otherwise_valid (net_of e) (plan_of e) 0 x && eqb (overrun (net_of e) (plan_of e) 0 x) e.missing && beq (valid (net_of e) (plan_of e) 0 x) (runs_at (net_of e) (plan_of e) 0)

pub agree : List Example → Bool
agree [] = true
agree (e ∷ es) = right_count e && right_set e && right_least e && right_spare e && right_flow e && agree es

pub starred : List Example
starred =
    row 0 [] [] 0 [] (pos 0) []
    ∷ row 1 ((1, 0) ∷ (1, 0) ∷ []) [] 1 [] (negsuc 0) (1 ∷ 1 ∷ [])
    ∷ row 2 ((1, 0) ∷ (1, 0) ∷ []) [] 0 [] (pos 0) (1 ∷ 1 ∷ [])
    ∷ row 1 ((1, 1) ∷ (1, 1) ∷ []) [] 1 [] (negsuc 0) (1 ∷ 1 ∷ [])
    ∷ row 1 ((1, 1) ∷ (1, 1) ∷ []) ((0, 1) ∷ []) 0 [] (pos 0) (1 ∷ 1 ∷ 0 ∷ [])
    ∷ row 0 ((0, 1) ∷ (0, 0) ∷ (1, 0) ∷ []) ((0, 1) ∷ (1, 2) ∷ []) 0 [] (pos 0) (1 ∷ 1 ∷ 0 ∷ 0 ∷ 0 ∷ [])
    ∷ row 1 ((0, 1) ∷ (1, 0) ∷ (1, 0) ∷ []) ((0, 1) ∷ []) 0 [] (pos 0) (1 ∷ 0 ∷ 0 ∷ 1 ∷ [])
    ∷ row 0 ((0, 0) ∷ (1, 0) ∷ (0, 0) ∷ []) ((0, 1) ∷ []) 1 (0 ∷ []) (negsuc 0) (0 ∷ 0 ∷ 1 ∷ 0 ∷ [])
    ∷ row 3 ((2, 2) ∷ (2, 2) ∷ []) [] 1 [] (negsuc 0) (2 ∷ 2 ∷ [])
    ∷ row 3 ((2, 2) ∷ (2, 2) ∷ []) ((0, 1) ∷ []) 0 [] (pos 1) (2 ∷ 2 ∷ 0 ∷ [])
    ∷ row 0 ((1, 1) ∷ []) [] 1 [] (negsuc 0) (1 ∷ [])
    ∷ row 0 ((0, 1) ∷ (1, 0) ∷ []) [] 1 [] (negsuc 0) (0 ∷ 1 ∷ [])
    ∷ []

pub starred_agree : T (agree starred)
unfolding agree right_count right_set right_least right_spare right_flow starred holds all any sum over at_end greatest every before before_by skeleton
    prefix front tokens lack missing need least_opening spare smallest runs_at inflow outflow shares rule1 rule2 rule3 rule4 valid otherwise_valid overrun
starred_agree = tt

-- The plan of document 01's listing: its free count, and each place's end, missing and spare count.
pub listing_net : Net
listing_net =
    record {
      places = 3;
      transitions = 2;
      opening = at (1 ∷ 0 ∷ 0 ∷ []);
      takes = λ t. at (get_or ((1 ∷ 0 ∷ 0 ∷ []) ∷ (0 ∷ 1 ∷ 0 ∷ []) ∷ []) t []);
      gives = λ t. at (get_or ((0 ∷ 1 ∷ 0 ∷ []) ∷ (0 ∷ 0 ∷ 1 ∷ []) ∷ []) t []);
    }

pub listing_plan : Plan
listing_plan = record { events = 3; label = at (0 ∷ 0 ∷ 1 ∷ []); pairs = 1; earlier = λ i. 0; later = λ i. 2 }

pub listing_agrees :
    (free_count listing_plan ≡ 2)
    × (end_count listing_net listing_plan 0 ≡ negsuc 0) × (end_count listing_net listing_plan 1 ≡ pos 1) × (end_count listing_net listing_plan 2 ≡ pos 1)
    × (missing listing_net listing_plan 0 ≡ 1) × (missing listing_net listing_plan 1 ≡ 0) × (missing listing_net listing_plan 2 ≡ 0)
    × (spare listing_net listing_plan 0 ≡ negsuc 0) × (spare listing_net listing_plan 1 ≡ pos 0) × (spare listing_net listing_plan 2 ≡ pos 0)
unfolding listing_net listing_plan free_count independent count_pairs count end_count tokens missing lack spare least_opening need prefix front before before_by all any sum over greatest
listing_agrees = (refl, refl, refl, refl, refl, refl, refl, refl, refl, refl)

-- Three bookings in a row (document 02, A6), and four with the pair (0, 3) given as well: no two events are free of each other, and that one pair
-- has events between its ends, so it is no skeleton pair. In the order of four that is no series or parallel composition three are free.
pub row_plan : Plan
row_plan = record { events = 3; label = λ v. 0; pairs = 2; earlier = at (0 ∷ 1 ∷ []); later = at (1 ∷ 2 ∷ []) }

pub chain_plan : Plan
chain_plan = record { events = 4; label = λ v. 0; pairs = 4; earlier = at (0 ∷ 1 ∷ 2 ∷ 0 ∷ []); later = at (1 ∷ 2 ∷ 3 ∷ 3 ∷ []) }

pub crossed_plan : Plan
crossed_plan = record { events = 4; label = λ v. 0; pairs = 3; earlier = at (0 ∷ 0 ∷ 1 ∷ []); later = at (2 ∷ 3 ∷ 3 ∷ []) }

pub order_agrees :
    (free_count row_plan ≡ 0) × (free_count chain_plan ≡ 0) × (free_count crossed_plan ≡ 3)
    × (skeleton chain_plan 0 ≡ true) × (skeleton chain_plan 1 ≡ true) × (skeleton chain_plan 2 ≡ true) × (skeleton chain_plan 3 ≡ false)
unfolding row_plan chain_plan crossed_plan free_count independent count_pairs count sum over skeleton before before_by any
order_agrees = (refl, refl, refl, refl, refl, refl, refl)
