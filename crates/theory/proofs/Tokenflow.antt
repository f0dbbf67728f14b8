-- What a settled place is missing, and that the givers seen are its smallest done set of the greatest lack.
use Rattle.std.specs.Prelude.{ℕ, ◌-◌, ◌<◌, ◌≡◌}
use native.Mathlib.Omega.{arith}
use Rattle.std.proofs.Math.Path.{ap}
use Rattle.finite.specs.Subset.{Set, set_ext}
use Rattle.finite.specs.Sum.{sum}
use Rattle.plan.specs.Net.{Net, Plan}
use Rattle.plan.specs.Order.{Sound}
use Rattle.plan.specs.Prefix.{missing, smallest, lack, above0}
use Rattle.theory.specs.Least.{least_bounds}
use Rattle.theory.specs.Missing.{supply, missing_opening, lack_above0}
use Rattle.theory.specs.Prefixes.{reached}
use Rattle.theory.specs.Smallest.{positive}
use Rattle.theory.proofs.Smallest.{smallest_is}
use Rattle.theory.specs.Tokenflow.{Tokenflow, Settled, tight_closed, seen_prefix, seen_full, settled_least}

module _ (N : Net) (P : Plan) (p : ℕ) (S : Sound P) (y : ℕ → ℕ → ℕ) (free share : ℕ → ℕ) (f : Tokenflow N P p y free share) where
  module _ (U D : Set) (s : Settled P y free share U D) where
    pub settled_missing : missing N P p ≡ sum P.events share - N.opening p
    settled_missing = omega (arith, settled_least N P p S y free share f U D s, missing_opening N P p)

    -- Where something is missing, the givers seen are the smallest done set of the greatest lack.
    pub settled_smallest : 0 < missing N P p → smallest N P p ≡ D
    unfolding supply
    settled_smallest short =
        let z = smallest_is N P p S short in
        let m : Set = smallest N P p in
        let lacks : above0 (lack N P p D) ≡ missing N P p =
        omega (
          arith,
          lack_above0 N P p D,
          least_bounds N P p S D (seen_prefix N P p S y free share f U D s),
          seen_full N P p S y free share f U D s,
          settled_least N P p S y free share f U D s,
          settled_missing,
        ) in
        set_ext
        m
        D
        (λ v t. z.least D (seen_prefix N P p S y free share f U D s) (positive (lack N P p D) (missing N P p) lacks short) v t)
        (λ v t. s.generated (reached P m) m (tight_closed N P p S y free share f m z.prefixed (omega (arith, settled_missing, lack_above0 N P p m, ap above0 z.lacks))) v t)
