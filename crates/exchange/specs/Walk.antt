-- Walking back along the trail of a search: what stays true of it while givers are exchanged, and what a step does.
use Rattle.std.specs.Prelude.{ℕ, ◌≤◌, ◌<◌, Bool, true, false, List, ◌⊎◌, ◌≡◌, T, get_or, Option, Some, None}
use Rattle.ids.specs.Limits.{most_events}
use Rattle.ids.specs.declared.Event.{Event}
use Rattle.marks.specs.Marks.{marked}
use Rattle.tokenflow.specs.Rows.{Rows}
use Rattle.tokenflow.specs.Flowing.{lacking}
use Rattle.search.specs.Row.{In}
use Rattle.search.specs.Trail.{◌!◌, Takers, Givers, takers_of, givers_of, FedBy, MetBy}
use Rattle.exchange.specs.declared.Step.{Step}
use Rattle.exchange.specs.declared.Step.TheVariants.{Drew, Stuck, On}

-- The takers listed are events, each listed once; the givers are events, each met by way of a taker listed.
pub record Route (n : ℕ) (pred : List ℕ) (t : Takers) (g : Givers) : Type 0 where
  pub few : t.tail ≤ most_events
  pub takers : (i : ℕ) → i < t.tail → t.queue ! i < n
  pub once : (i j : ℕ) → i < j → j < t.tail → ¬ (t.queue ! i ≡ t.queue ! j)
  pub givers : (u : ℕ) → In g.row u → u < n
  pub met : (u : ℕ) → In g.row u → MetBy pred t g u

-- The giver u has tokens free, and from the place by way of which it was met the trail leads to a taker that lacks some.
pub record Ready (r : Rows) (t : Takers) (g : Givers) (u : ℕ) : Type 0 where
  pub giver : In g.row u
  pub free : 0 < get_or r.free u 0
  pub reason : (i : ℕ) → i ≤ g.via ! u → (0 < get_or r.share (t.queue ! i) 0) ⊎ FedBy r.fed t g i

-- The rows of a search that a walk reads: the queue, the origins of its places, and the places by way of which givers were met.
pub record TrailRows : Type 0 where
  pub queue : List ℕ
  pub origin : List ℕ
  pub via : List ℕ

abbrev pub trail_rows : List ℕ → List ℕ → List ℕ → TrailRows
trail_rows q o v = record { queue = q; origin = o; via = v }

-- A giver that is ready by these rows, whatever sets and however many takers the search listed.
abbrev pub IsReady : ℕ → List ℕ → TrailRows → Rows → ℕ → List ℕ → ℕ → List ℕ → Type 0
IsReady n pred m r u row tail met =
    Route n pred (takers_of row m.queue m.origin tail) (givers_of met m.via)
    × Ready r (takers_of row m.queue m.origin tail) (givers_of met m.via) u

-- u isn't ready, by whatever sets.
abbrev pub Unready : ℕ → List ℕ → TrailRows → Rows → ℕ → Type 0
Unready n pred m r u = (row : List ℕ) (tail : ℕ) (met : List ℕ) → IsReady n pred m r u row tail met → ⊥

-- If u was ready, v is now.
abbrev pub ReadyOn : ℕ → List ℕ → TrailRows → Rows → Rows → ℕ → ℕ → Type 0
ReadyOn n pred m r r' u v =
    (row : List ℕ) (tail : ℕ) (met : List ℕ) → IsReady n pred m r u row tail met → IsReady n pred m r' v row tail met

-- Place i is the one by way of which the giver u was met, and the taker there is an event that u is before.
pub record TakerPlace (n : ℕ) (pred queue via : List ℕ) (u i : ℕ) : Type 0 where
  pub here : i ≡ via ! u
  pub near : i < most_events
  pub names : queue ! i < n
  pub ahead : T (marked pred (queue ! i) u)

-- v is the origin of place i, was met by way of an earlier place, and feeds the taker w.
pub record NextGiver (n : ℕ) (origin via fed : List ℕ) (i w v : ℕ) : Type 0 where
  pub here : v ≡ origin ! i
  pub names : v < n
  pub earlier : via ! v < i
  pub feeds : T (marked fed v w)

-- It is at a giver with the property P, or no event has it.
abbrev pub TellsGiver : (ℕ → Type 0) → Option Event → Type 0
TellsGiver P (Some v) = P v.0
TellsGiver P None = (v : ℕ) → P v → ⊥

-- What a step from the giver u says: it drew tokens for a taker that lacked some; it is stuck, which no ready giver is; or it goes
-- on at v, by way of an earlier place, and v is ready if u was.
abbrev pub Stepped : ℕ → List ℕ → TrailRows → Rows → Rows → ℕ → Step → Type 0
Stepped n pred m r r' u Drew = lacking n r' < lacking n r
Stepped n pred m r r' u Stuck = Unready n pred m r u
Stepped n pred m r r' u (On v) = (v.0 < n) × (m.via ! v.0 < m.via ! u) × ReadyOn n pred m r r' u v.0

-- What a walk from the giver u says: it drew tokens, or u was not ready.
abbrev pub Walked : ℕ → List ℕ → TrailRows → Rows → Rows → ℕ → Bool → Type 0
Walked n pred m r r' u true = lacking n r' < lacking n r
Walked n pred m r r' u false = Unready n pred m r u
