-- The index of skeleton pairs, in one row: lists of them by the events where they end.
use Rattle.std.specs.Prelude.{ℕ, ◌+◌, ◌≤◌, ◌<◌, ◌&&◌, List, ◌≡◌, T, eqb, get_or, replicate}
use Rattle.finite.specs.Last.{last}
use Rattle.finite.specs.Subset.{Set}
use Rattle.ids.specs.Limits.{most_events, most_pairs}
use Rattle.plan.specs.Net.{Plan}
use Rattle.plan.specs.Order.{skeleton}

-- an entry for each event, then two for each pair
abbrev pub index_size : ℕ
index_size = 2304

-- The entry of an event is at its number. A pair has one that leads to the pair listed before it, and one with the event where it starts.
abbrev pub link_at : ℕ → ℕ
link_at i = most_events + i

abbrev pub start_at : ℕ → ℕ
start_at i = most_events + most_pairs + i

-- an index in which no pair is listed
abbrev pub Unlisted : List ℕ → Type 0
Unlisted index = index ≡ replicate index_size 0

-- Pair i, from a to b, is listed as the last of b. Other entries stay.
pub record PairListed (old new : List ℕ) (a b i : ℕ) : Type 0 where
  pub head : get_or new b 0 ≡ i + 1
  pub link : get_or new (link_at i) 0 ≡ get_or old b 0
  pub start : get_or new (start_at i) 0 ≡ a
  pub others : (at : ℕ) → ¬ (at ≡ b) → ¬ (at ≡ link_at i) → ¬ (at ≡ start_at i) → get_or new at 0 ≡ get_or old at 0

module _ (P : Plan) where
  -- i is a skeleton pair that ends at v
  abbrev pub ends_at : ℕ → Set
  ends_at v i = eqb (P.later i) v && skeleton P i

  -- The skeleton pairs among the first m, listed: an event has the number after that of its last pair, a pair that after its event's last pair before
  -- it, and 0 says that there is none.
  pub record Lists (m : ℕ) (index : List ℕ) : Type 0 where
    pub few : m ≤ most_pairs
    pub heads : (v : ℕ) → v < most_events → get_or index v 0 ≡ last m (ends_at v)
    pub links : (i : ℕ) → i < m → T (skeleton P i) → get_or index (link_at i) 0 ≡ last i (ends_at (P.later i))
    pub starts : (i : ℕ) → i < m → T (skeleton P i) → get_or index (start_at i) 0 ≡ P.earlier i
