-- What is asked and promised of lent rows: some plan has the rows, and what is promised holds of every plan that has them.
use Rattle.std.specs.Prelude.{ℕ, ◌+◌, ◌*◌, ◌<◌, List, ◌≡◌, length, get_or}
use Rattle.ids.specs.Limits.{most_events}
use Rattle.plan.specs.Net.{Plan}
use Rattle.plan.specs.Order.{Before}
use Rattle.tokenflow.specs.Rows.{fed_by}
use Rattle.fold.specs.Carried.{Carried}
use Rattle.fold.specs.Folded.{Folded}
use Rattle.fold.specs.FoldedTo.{FoldedTo}
use Rattle.fold.specs.Feeding.{Foldable, Turned}
use Rattle.fold.specs.Walkable.{Walkable, StepBack}
use Rattle.fold.specs.Written.{numbers_of}

-- one step back from cur toward u
abbrev pub MayStep : List ℕ → List ℕ → ℕ → ℕ → Type 0
MayStep succ skel u cur = (P : Plan) × (index : List ℕ) × Walkable P succ skel index × Before P u cur

abbrev pub SteppedBack : List ℕ → List ℕ → ℕ → ℕ → ℕ → Type 0
SteppedBack succ skel u cur v =
    (P : Plan) (index : List ℕ) → Walkable P succ skel index → Before P u cur → StepBack P u cur v

-- k tokens carried from u to w
abbrev pub MayTrace : List ℕ → List ℕ → List ℕ → List ℕ → ℕ → ℕ → Type 0
MayTrace succ skel index row u w =
    (P : Plan) × Walkable P succ skel index × Before P u w × (P.pairs ≡ length row)

abbrev pub Traced : List ℕ → List ℕ → List ℕ → List ℕ → List ℕ → ℕ → ℕ → ℕ → Type 0
Traced succ skel index row row' u w k =
    (P : Plan) → Walkable P succ skel index → Before P u w → Carried P (numbers_of row) (numbers_of row') u w k

-- each number of the row may grow by k
abbrev pub Spacious : List ℕ → ℕ → Type 0
Spacious row k = (i : ℕ) → i < length row → get_or row i 0 + k < 4294967296

-- all tokens folded, with m numbers for the pairs
abbrev pub MayFold : ℕ → ℕ → List ℕ → List ℕ → List ℕ → List ℕ → List ℕ → Type 0
MayFold n m succ skel index amount fed =
    (P : Plan) × Foldable P n succ skel index amount fed × (P.pairs ≡ m)

abbrev pub AllFolded : ℕ → ℕ → List ℕ → List ℕ → List ℕ → List ℕ → List ℕ → List ℕ → Type 0
AllFolded n m succ skel index amount fed row =
    (P : Plan) → Foldable P n succ skel index amount fed → P.pairs ≡ m
    → Folded P (fed_by amount fed) (numbers_of row)

-- all that u gives, where all that the givers below it give is folded
abbrev pub MayFoldGiver : ℕ → ℕ → List ℕ → List ℕ → List ℕ → List ℕ → List ℕ → List ℕ → Type 0
MayFoldGiver n u succ skel index amount fed row =
    (P : Plan) × Foldable P n succ skel index amount fed × (P.pairs ≡ length row)
    × FoldedTo P (fed_by amount fed) (u * most_events) (numbers_of row)

abbrev pub GiverFolded : ℕ → ℕ → List ℕ → List ℕ → List ℕ → List ℕ → List ℕ → List ℕ → List ℕ → Type 0
GiverFolded n u succ skel index amount fed row row' =
    Turned n succ skel index amount fed (u * most_events) row ((u + 1) * most_events) row'
