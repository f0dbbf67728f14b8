-- What the test at one event says of rules 1 and 2.
use Prim.Native.Nat.{ℕ, ◌+◌, ◌<◌, ◌≤◌}
use mathlib.Core.Bool.{false}
use mathlib.Core.Path.{◌≡◌}
use borrow.Author.Tests.{le-leb, lt-leb}
use lib.Dec.{leb}
use Rattle.flowcheck.specs.Kept.{kept}

-- rule 1 fails
pub kept_short : (taken given arrived left : ℕ) → arrived < taken → false ≡ kept taken given arrived left
unfolding kept
kept_short taken given arrived left l = simp (lt-leb taken arrived l)

-- rule 1 holds, and rule 2 decides
pub kept_rest : (taken given arrived left t g : ℕ) → t ≡ taken → g ≡ given → taken ≤ arrived → leb (left + t) (arrived + g) ≡ kept taken given arrived left
unfolding kept
kept_rest taken given arrived left t g e h l = simp (le-leb taken arrived l, e, h)
