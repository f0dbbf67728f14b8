-- How far rows of what is before are worked out, event by event along the queue.
use Rattle.std.specs.Prelude.{ℕ, ◌<◌, List, ◌≡◌, get_or}
use Rattle.closure.specs.Carried.{Carried}
use Rattle.plan.specs.Net.{Plan}

module _ (P : Plan) (queue : List ℕ) where
  -- pair i starts at one of the first h events of the queue
  abbrev pub starts_below : ℕ → ℕ → Type 0
  starts_below h i = (k : ℕ) × (k < h) × (get_or queue k 0 ≡ P.earlier i)

  -- The pairs of the first h events are carried.
  abbrev pub CarriedTo : ℕ → List ℕ → Type 0
  CarriedTo h = Carried P (starts_below h)
