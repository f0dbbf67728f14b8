-- What the steps of a search leave, one after another.
use Rattle.std.specs.Prelude.{ℕ, ◌≤◌, ◌<◌, List, ◌≡◌}
use Rattle.finite.specs.Queue.{Stored}
use Rattle.ids.specs.Limits.{most_events}
use Rattle.marks.specs.Marks.{MarkAdded}
use Rattle.search.specs.Row.{In, AllIn}
use Rattle.search.specs.Exhausted.{Narrow}
use Rattle.search.specs.Trail.{◌!◌, Takers, Givers, Trail}
use Rattle.search.specs.Searched.{Listed}

-- The event v joins a set, and the number x is stored at a place of the list that goes with it.
pub record Joined (row row' : List ℕ) (v : ℕ) (list list' : List ℕ) (at x : ℕ) : Type 0 where
  pub event : v < most_events
  pub mark : MarkAdded row row' 0 v
  pub put : Stored list list' at x

-- The takers below k that have a share are listed.
pub record Seeded (share : List ℕ) (k : ℕ) (row queue : List ℕ) (tail : ℕ) : Type 0 where
  pub queued : Listed row queue tail
  pub roots : (w : ℕ) → w < k → 0 < share ! w → In row w
  pub only : (w : ℕ) → In row w → (w < k) × (0 < share ! w)

-- More takers are listed, behind those that were.
pub record Longer (t s : Takers) : Type 0 where
  pub queued : Listed s.row s.queue s.tail
  pub more : t.tail ≤ s.tail
  pub keeps : (w : ℕ) → In t.row w → In s.row w
  pub prefix : (i : ℕ) → i < t.tail → s.queue ! i ≡ t.queue ! i

-- Takers that the giver u feeds are listed.
pub record Following (fed : List ℕ) (u : ℕ) (t s : Takers) : Type 0 where
  pub longer : Longer t s
  pub trail : (pred share : List ℕ) (n : ℕ) (g : Givers) → Narrow pred fed n → In g.row u → g.via ! u < t.tail
      → Trail pred fed share n t g → Trail pred fed share n s g

-- All that a giver met feeds is listed.
abbrev pub Onward : List ℕ → Takers → Givers → Type 0
Onward fed t g = (u : ℕ) → In g.row u → AllIn fed u t.row

-- Givers are met, and what they feed is listed.
pub record Visiting (pred fed : List ℕ) (t : Takers) (g : Givers) (s : Takers) (h : Givers) : Type 0 where
  pub longer : Longer t s
  pub keeps : (u : ℕ) → In g.row u → In h.row u
  pub onward : Onward fed t g → Onward fed s h
  pub trail : (share : List ℕ) (n : ℕ) → Narrow pred fed n → Trail pred fed share n t g → Trail pred fed share n s h
