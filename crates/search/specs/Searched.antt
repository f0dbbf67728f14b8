-- What a search leaves.
use Rattle.std.specs.Prelude.{ℕ, ◌≤◌, ◌<◌, List}
use Rattle.finite.specs.Queue.{Queued}
use Rattle.ids.specs.Limits.{most_events}
use Rattle.search.specs.Row.{members, In}
use Rattle.search.specs.Exhausted.{Exhausted}
use Rattle.search.specs.Trail.{Takers, Givers, Trail}

-- The first places of the queue list the members of the row, each once.
abbrev pub Listed : List ℕ → List ℕ → ℕ → Type 0
Listed row queue tail = Queued most_events (members row) queue tail

-- The takers and givers reached are numbers below n, a search may stop at them, and they have a trail by which they lie within whatever
-- else it may stop at.
pub record Searched (pred fed share : List ℕ) (n : ℕ) (t : Takers) (g : Givers) : Type 0 where
  pub takers : (w : ℕ) → In t.row w → w < n
  pub givers : (u : ℕ) → In g.row u → u < n
  pub exhausted : Exhausted pred fed share n (members t.row) (members g.row)
  pub trail : Trail pred fed share n t g
  pub queued : Listed t.row t.queue t.tail
  pub fits : t.tail ≤ n
