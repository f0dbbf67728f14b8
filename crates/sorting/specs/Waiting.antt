-- The pairs of a plan in lists by their earlier events; and how many an event waits for.
use Rattle.std.specs.Prelude.{ℕ, ◌<◌, not, ◌&&◌, List, ◌≡◌, eqb, get_or}
use Rattle.finite.specs.Count.{count}
use Rattle.finite.specs.Last.{last}
use Rattle.finite.specs.Subset.{Set, empty}
use Rattle.ids.specs.Limits.{most_events}
use Rattle.plan.specs.Net.{Plan}
use Rattle.sorting.specs.declared.PairLists.{PairLists}

module _ (P : Plan) where
  -- pair i starts at u
  abbrev pub starts_at : ℕ → Set
  starts_at u i = eqb (P.earlier i) u

  -- pair i ends at v, and is not gone
  abbrev pub waits_for : Set → ℕ → Set
  waits_for gone v i = eqb (P.later i) v && not (gone i)

  -- The first m pairs, listed: an event has the number after that of its last pair, a pair that after its event's last pair before it, and 0 says
  -- that there is none.
  pub record Lists (m : ℕ) (l : PairLists) : Type 0 where
    pub heads : (u : ℕ) → u < most_events → get_or l.first u 0 ≡ last m (starts_at u)
    pub links : (i : ℕ) → i < m → get_or l.next i 0 ≡ last i (starts_at (P.earlier i))

  -- An event has the number of those of the first m pairs that it waits for.
  pub record Waits (gone : Set) (m : ℕ) (left : List ℕ) : Type 0 where
    pub counts : (v : ℕ) → v < most_events → get_or left v 0 ≡ count m (waits_for gone v)

  -- The first m pairs are listed, and counted at the events where they end.
  pub record Listed (l : PairLists) (left : List ℕ) (m : ℕ) : Type 0 where
    pub lists : Lists m l
    pub waits : Waits empty m left
