-- What a move does: the rows hold a tokenflow still, in which every event gives and takes what it did, and no more is lacking.
use Rattle.std.specs.Prelude.{ℕ, ◌+◌, ◌≤◌, ◌<◌, min, List, ◌≡◌, refl, T, length, get_or}
use Rattle.std.proofs.Common.{le_refl, le_trans, ◌∙◌}
use Rattle.ids.specs.Limits.{most_events}
use Rattle.marks.specs.Marks.{marked}
use Rattle.tokenflow.specs.Rows.{Rows, Drawn}
use Rattle.tokenflow.specs.Flowing.{Flowing, Kept, lacking, kept_none, kept_then}

-- Rows of what is before each event mark nothing but events.
pub record Order (n : ℕ) (pred : List ℕ) : Type 0 where
  pub events : (w u : ℕ) → u < most_events → T (marked pred w u) → u < n

pub record Moved (n : ℕ) (pred : List ℕ) (r r' : Rows) : Type 0 where
  pub size : length r'.amount ≡ length r.amount
  pub flows : Flowing n pred r'
  pub kept : Kept n r r'
  pub lacks : lacking n r' ≤ lacking n r

pub moved_none : (n : ℕ) (pred : List ℕ) (r : Rows) → Flowing n pred r → Moved n pred r r
moved_none n pred r f = record { size = refl; flows = f; kept = kept_none n r; lacks = le_refl (lacking n r) }

pub moved_then : (n : ℕ) (pred : List ℕ) (r s t : Rows) → Moved n pred r s → Moved n pred s t → Moved n pred r t
moved_then n pred r s t m k =
    record {
      size = k.size ∙ m.size;
      flows = k.flows;
      kept = kept_then m.kept k.kept;
      lacks = le_trans k.lacks m.lacks;
    }

-- what a proof about moves is looked for by: `search (moves, needs)`
pub ruleset moves = (moved_none, moved_then)

-- The taker w draws all that it lacks and u has free.
pub record DrawnMost (n : ℕ) (pred : List ℕ) (r r' : Rows) (u w k : ℕ) : Type 0 where
  pub most : k ≡ min (get_or r.free u 0) (get_or r.share w 0)
  pub drawn : Drawn r r' u w k
  pub moved : Moved n pred r r'
  pub less : lacking n r ≡ lacking n r' + k
