-- What is written into a lent row, and that a folded tokenflow with the shares of its takers is a valid flow row.
use Rattle.std.specs.Prelude.{ℕ, ◌+◌, ◌≤◌, ◌<◌, List, ◌≡◌, T, length, get_or, set}
use Rattle.finite.specs.Sum.{sum}
use Rattle.plan.specs.Net.{Net, Plan}
use Rattle.plan.specs.Flow.{valid}
use Rattle.theory.specs.Tokenflow.{Tokenflow}
use Rattle.fold.specs.Folded.{Folded, folded_valid}

-- the number at i of a row
abbrev pub numbers_of : List ℕ → ℕ → ℕ
numbers_of row i = get_or row i 0

-- the row with k more at i
abbrev pub raised_by : List ℕ → ℕ → ℕ → List ℕ
raised_by row i k = set row i (get_or row i 0 + k)

-- the row has no number but 0
pub record Zeros (row : List ℕ) : Type 0 where
  pub zero : (i : ℕ) → get_or row i 0 ≡ 0

-- From m on the row has the shares of n events, and the numbers after them are as they were. Of those below m it says nothing.
pub record SharesFrom (m : ℕ) (row row' share : List ℕ) (n : ℕ) : Type 0 where
  pub size : length row' ≡ length row
  pub shares : (v : ℕ) → v < n → get_or row' (m + v) 0 ≡ get_or share v 0
  pub rest : (j : ℕ) → m + n ≤ j → get_or row' j 0 ≡ get_or row j 0

-- A row so written is a valid flow, if the opening count covers the shares.
pub written_valid : (N : Net) (P : Plan) (p : ℕ) (y : ℕ → ℕ → ℕ) (free : ℕ → ℕ) (share row row' : List ℕ)
    → Tokenflow N P p y free (numbers_of share) → Folded P y (numbers_of row') → SharesFrom P.pairs row row' share P.events
    → sum P.events (numbers_of share) ≤ N.opening p → T (valid N P p (numbers_of row'))
written_valid N P p y free share row row' t f w covered =
    folded_valid N P p y free (numbers_of share) t (numbers_of row') f w.shares covered
