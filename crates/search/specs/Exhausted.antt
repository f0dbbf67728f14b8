-- The steps of a search. Row w of `pred` marks the givers before taker w, row u of `fed` the takers that giver u feeds, and the search
-- starts at each taker with a share.
use Rattle.std.specs.Prelude.{ℕ, ◌<◌, List, T, get_or}
use Rattle.finite.specs.Subset.{Set}
use Rattle.ids.specs.Limits.{most_events}
use Rattle.marks.specs.Marks.{marked}

-- Takers and givers are numbers below n.
pub record Narrow (pred fed : List ℕ) (n : ℕ) : Type 0 where
  pub back : (w u : ℕ) → w < n → u < most_events → T (marked pred w u) → u < n
  pub onward : (u w : ℕ) → u < n → w < most_events → T (marked fed u w) → w < n

-- Takers W and givers E at which a search may stop: no step leads out of them.
pub record Exhausted (pred fed share : List ℕ) (n : ℕ) (W E : Set) : Type 0 where
  pub roots : (w : ℕ) → w < n → 0 < get_or share w 0 → T (W w)
  pub back : (w u : ℕ) → w < n → u < n → T (W w) → T (marked pred w u) → T (E u)
  pub onward : (u w : ℕ) → u < n → w < n → T (E u) → T (marked fed u w) → T (W w)
