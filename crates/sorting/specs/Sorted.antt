-- Events in a queue, each after those that have a pair to it; in rounds, in each of which the pairs of one event of the queue are gone over.
use Rattle.std.specs.Prelude.{ℕ, ◌≤◌, ◌<◌, ◌&&◌, List, ◌≡◌, eqb, ltb, get_or, replicate}
use Rattle.finite.specs.Bounded.{any}
use Rattle.finite.specs.Queue.{Queued}
use Rattle.finite.specs.Subset.{Set}
use Rattle.ids.specs.Limits.{most_events, most_pairs}
use Rattle.plan.specs.Net.{Plan}
use Rattle.sorting.specs.Waiting.{Lists, Waits}
use Rattle.sorting.specs.declared.PairLists.{PairLists}
use Rattle.sorting.specs.declared.Sorting.{Sorting}

-- the events below n that wait for nothing
abbrev pub ready : ℕ → List ℕ → Set
ready n left v = ltb v n && eqb (get_or left v 0) 0

module _ (P : Plan) where
  -- the pairs that start at one of the first h events of the queue
  abbrev pub passed : List ℕ → ℕ → Set
  passed queue h i = any h (λ k. eqb (get_or queue k 0) (P.earlier i))

  -- Whatever has a pair to an event of the queue stands before it.
  abbrev pub Ordered : List ℕ → ℕ → Type 0
  Ordered queue n =
      (k i : ℕ) → k < n → i < P.pairs → P.later i ≡ get_or queue k 0 → (j : ℕ) × (j < k) × (get_or queue j 0 ≡ P.earlier i)

  -- The pairs of the first h events are gone over, and all events that wait for no other pair are in the queue.
  pub record Round (left queue : List ℕ) (h n : ℕ) : Type 0 where
    pub reached : h ≤ n
    pub waits : Waits P (passed queue h) P.pairs left
    pub queued : Queued P.events (ready P.events left) queue n
    pub ordered : Ordered queue n

  -- The pairs are listed, and the pairs of all n events of the queue are gone over.
  pub record SortedTo (s : Sorting) (n : ℕ) : Type 0 where
    pub lists : Lists P P.pairs s.lists
    pub left : List ℕ
    pub round : Round left s.queue n n

-- no pair is listed
abbrev pub NoLists : PairLists → Type 0
NoLists l = (l.first ≡ replicate most_events 0) × (l.next ≡ replicate most_pairs 0)
