-- When a search is the last: it may stop at the takers and givers reached, these are least, and no giver has tokens free.
use Rattle.std.specs.Prelude.{ℕ, ◌<◌, ◌≤◌, Bool, true, false, List, ◌⊎◌, ◌≡◌, T, get_or}
use Rattle.finite.specs.Subset.{Set}
use Rattle.tokenflow.specs.Rows.{Rows}
use Rattle.tokenflow.specs.Flowing.{lacking}
use Rattle.search.specs.Row.{In, members}
use Rattle.search.specs.Exhausted.{Exhausted}
use Rattle.search.specs.Searched.{Searched}
use Rattle.search.specs.Trail.{takers_of, givers_of}
use Rattle.exchange.specs.Walk.{TrailRows}

pub record Finished (n : ℕ) (pred : List ℕ) (r : Rows) (takers givers : List ℕ) : Type 0 where
  pub takers_named : (w : ℕ) → In takers w → w < n
  pub givers_named : (u : ℕ) → In givers u → u < n
  pub exhausted : Exhausted pred r.fed r.share n (members takers) (members givers)
  pub least : (W E : Set) → Exhausted pred r.fed r.share n W E → (u : ℕ) → In givers u → T (E u)
  pub spent : (u : ℕ) → In givers u → get_or r.free u 0 ≡ 0

-- What settling comes to: what is lacking is little enough, or the search was the last.
abbrev pub Ended : ℕ → List ℕ → ℕ → Rows → List ℕ → Type 0
Ended n pred enough r givers = (lacking n r ≤ enough) ⊎ ((takers : List ℕ) × Finished n pred r takers givers)

-- A giver that was met and has tokens free.
pub record HasFree (givers free : List ℕ) (n u : ℕ) : Type 0 where
  pub event : u < n
  pub met : In givers u
  pub some : 0 < get_or free u 0

-- Whether u was met and has tokens free, as a test says it.
abbrev pub FreeSaid : List ℕ → List ℕ → ℕ → Bool → Type 0
FreeSaid givers free u true = In givers u × (0 < get_or free u 0)
FreeSaid givers free u false = In givers u → 0 < get_or free u 0 → ⊥

-- What walking after a search says: less is lacking than before, or nothing changed and no giver that was met has tokens free.
pub record Advanced (n : ℕ) (pred givers : List ℕ) (m : TrailRows) (r r' : Rows) (moved : Bool) : Type 0 where
  pub less : moved ≡ true → (row : List ℕ) (tail : ℕ)
      → Searched pred r.fed r.share n (takers_of row m.queue m.origin tail) (givers_of givers m.via)
      → lacking n r' < lacking n r
  pub same : moved ≡ false → r' ≡ r
  pub none : moved ≡ false → (u : ℕ) → HasFree givers r.free n u → ⊥

-- What a round says: less is lacking than before, or the search was the last.
pub record Rounded (n : ℕ) (pred : List ℕ) (r r' : Rows) (takers givers : List ℕ) (moved : Bool) : Type 0 where
  pub less : moved ≡ true → lacking n r' < lacking n r
  pub last : moved ≡ false → Finished n pred r' takers givers
