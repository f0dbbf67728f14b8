-- How a search reached each event, for walking back from it to a taker with a share.
use Rattle.std.specs.Prelude.{ℕ, ◌<◌, List, ◌⊎◌, T, get_or}
use Rattle.finite.specs.Subset.{Set}
use Rattle.marks.specs.Marks.{marked}
use Rattle.search.specs.Row.{In}
use Rattle.search.specs.Exhausted.{Exhausted}

infixl 90 ◌!◌
abbrev pub ◌!◌ : List ℕ → ℕ → ℕ
xs ! i = get_or xs i 0

-- The takers reached: marked in a row, and listed in the first places of the queue. Place i has the giver it came from, its origin.
pub record Takers : Type 0 where
  pub row : List ℕ
  pub queue : List ℕ
  pub origin : List ℕ
  pub tail : ℕ

abbrev pub takers_of : List ℕ → List ℕ → List ℕ → ℕ → Takers
takers_of row queue origin tail = record { row = row; queue = queue; origin = origin; tail = tail }

-- The givers met: marked in a row, each with the place in the queue of the taker by way of which it was met.
pub record Givers : Type 0 where
  pub row : List ℕ
  pub via : List ℕ

abbrev pub givers_of : List ℕ → List ℕ → Givers
givers_of row via = record { row = row; via = via }

-- The taker at place i was fed by its origin, which was met by way of an earlier place.
pub record FedBy (fed : List ℕ) (t : Takers) (g : Givers) (i : ℕ) : Type 0 where
  pub giver : In g.row (t.origin ! i)
  pub feeds : T (marked fed (t.origin ! i) (t.queue ! i))
  pub earlier : g.via ! (t.origin ! i) < i

-- The giver u is before the taker by way of which it was met.
pub record MetBy (pred : List ℕ) (t : Takers) (g : Givers) (u : ℕ) : Type 0 where
  pub place : g.via ! u < t.tail
  pub before : T (marked pred (t.queue ! (g.via ! u)) u)

-- Each taker listed has a share or was fed, each giver was met, and no sets at which a search may stop lack one of them.
pub record Trail (pred fed share : List ℕ) (n : ℕ) (t : Takers) (g : Givers) : Type 0 where
  pub reason : (i : ℕ) → i < t.tail → (0 < share ! (t.queue ! i)) ⊎ FedBy fed t g i
  pub met : (u : ℕ) → In g.row u → MetBy pred t g u
  pub least : (W E : Set) → Exhausted pred fed share n W E
      → ((w : ℕ) → In t.row w → T (W w)) × ((u : ℕ) → In g.row u → T (E u))
