-- Sums of a flow row, at each event or over all of them.
use Rattle.std.specs.Prelude.{ℕ, ◌+◌, ◌*◌, ◌≤◌, List, ◌≡◌, eqb, get_or}
use Rattle.ids.specs.Limits.{most_pairs}
use Rattle.finite.specs.Sum.{on, sum, at_end}
use Rattle.plan.specs.Net.{Plan}
use Rattle.plan.specs.Flow.{Flow}

-- the greatest number of 32 bits, and of a share and as much on each pair
abbrev pub most_number : ℕ
most_number = 4294967295

abbrev pub most_sum : ℕ
most_sum = most_number * (most_pairs + 1)

-- x, a number of 32 bits, is added to the sum at v
pub record SumRaised (old new : List ℕ) (v x : ℕ) : Type 0 where
  pub small : x ≤ most_number
  pub sums : (w : ℕ) → get_or new w 0 ≡ get_or old w 0 + on (eqb v w) x

-- the sum f v at each v, of at most k numbers of 32 bits
pub record Sums (f : ℕ → ℕ) (k : ℕ) (sums : List ℕ) : Type 0 where
  pub value : (v : ℕ) → get_or sums v 0 ≡ f v
  pub most : (v : ℕ) → get_or sums v 0 ≤ most_number * k

-- what the first m pairs carry into each event and out of it
pub record PairSums (P : Plan) (x : Flow) (m : ℕ) (into out : List ℕ) : Type 0 where
  pub arrive : Sums (at_end m P.later x) m into
  pub leave : Sums (at_end m P.earlier x) m out

-- the first n shares, which stand after the numbers of the pairs
unfoldable pub shares_of : List ℕ → ℕ → ℕ → ℕ
shares_of row pairs n = sum n (λ v. get_or row (pairs + v) 0)
