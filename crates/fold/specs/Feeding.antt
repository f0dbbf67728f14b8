-- Rows of tokens that can be folded: who feeds whom is ordered, and all the tokens fit a number.
use Rattle.std.specs.Prelude.{ℕ, ◌*◌, ◌≤◌, ◌<◌, List, ◌≡◌, T, length}
use Rattle.ids.specs.Limits.{most_events}
use Rattle.plan.specs.Net.{Plan}
use Rattle.plan.specs.Order.{Before}
use Rattle.marks.specs.Marks.{marked}
use Rattle.tokenflow.specs.Rows.{fed_by}
use Rattle.fold.specs.FoldedTo.{total, FoldedTo}
use Rattle.fold.specs.Walkable.{Walkable}
use Rattle.fold.specs.Written.{numbers_of}

pub record Feeding (P : Plan) (amount fed : List ℕ) : Type 0 where
  pub room : P.events * most_events ≤ length amount
  pub ordered : (u w : ℕ) → u < P.events → w < P.events → T (marked fed u w) → Before P u w
  pub fits : total P.events (fed_by amount fed) < 4294967296

-- All that a fold needs to know of a plan with n events, and of its rows.
pub record Foldable (P : Plan) (n : ℕ) (succ skel index amount fed : List ℕ) : Type 0 where
  pub events : P.events ≡ n
  pub way : Walkable P succ skel index
  pub feeds : Feeding P amount fed

-- Of every plan with these rows and a number for each pair: where the tokens of the turns before t were folded in the one row,
-- those of the turns before t' are in the other.
pub record Turned (n : ℕ) (succ skel index amount fed : List ℕ) (t : ℕ) (row : List ℕ) (t' : ℕ) (row' : List ℕ) : Type 0 where
  pub size : length row' ≡ length row
  pub folded : (P : Plan) → Foldable P n succ skel index amount fed → P.pairs ≡ length row → FoldedTo P (fed_by amount fed) t (numbers_of row)
      → FoldedTo P (fed_by amount fed) t' (numbers_of row')
