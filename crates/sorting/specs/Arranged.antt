-- All events in a queue, in an order in which what is before comes first; the lists by which pairs are gone over in that order.
use Rattle.std.specs.Prelude.{ℕ, ◌<◌, List, ◌≡◌, get_or}
use Rattle.plan.specs.Net.{Plan}
use Rattle.sorting.specs.Sorted.{Ordered}
use Rattle.sorting.specs.Waiting.{Lists}
use Rattle.sorting.specs.declared.Sorting.{Sorting}

-- Each event has one place in the queue, after those that have a pair to it.
pub record Arranged (P : Plan) (queue : List ℕ) : Type 0 where
  pub events : (k : ℕ) → k < P.events → get_or queue k 0 < P.events
  pub placed : (v : ℕ) → v < P.events → (k : ℕ) × (k < P.events) × (get_or queue k 0 ≡ v)
  pub once : (i k : ℕ) → i < k → k < P.events → ¬ (get_or queue i 0 ≡ get_or queue k 0)
  pub ordered : Ordered P queue P.events

-- The plan's pairs are in lists, and its events in such a queue.
pub record Sorted (P : Plan) (s : Sorting) : Type 0 where
  pub lists : Lists P P.pairs s.lists
  pub arranged : Arranged P s.queue
