-- What a step leaves: one pair more in the lists, one pair less that an event waits for.
use Rattle.std.specs.Prelude.{ℕ, ◌+◌, ◌-◌, List, ◌≡◌, get_or}
use Rattle.finite.specs.Queue.{Stored}
use Rattle.sorting.specs.declared.PairLists.{PairLists}

-- Pair i is listed as the last of a, and b waits for it.
pub record PairListed (l : PairLists) (left : List ℕ) (l' : PairLists) (left' : List ℕ) (i a b : ℕ) : Type 0 where
  pub heads : Stored l.first l'.first a (i + 1)
  pub links : Stored l.next l'.next i (get_or l.first a 0)
  pub counts : Stored left left' b (get_or left b 0 + 1)

-- The event v waits for one pair less. If that was its last, it is put behind the others in the queue.
pub record Lowered (left queue left' queue' : List ℕ) (v end end' : ℕ) : Type 0 where
  pub counts : Stored left left' v (get_or left v 0 - 1)
  pub joins : get_or left v 0 ≡ 1 → Stored queue queue' end v × (end' ≡ end + 1)
  pub stays : ¬ (get_or left v 0 ≡ 1) → (queue' ≡ queue) × (end' ≡ end)
