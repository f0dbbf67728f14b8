-- The same order makes the same test of "before".
use Rattle.std.specs.Prelude.{ℕ, ◌↔◌, ◌≡◌}
use Rattle.plan.specs.Net.{Plan}
use Rattle.plan.specs.Order.{Before, before}
use Rattle.plan.proofs.Closure.{before_test, says_before}

-- "Before" is monotone in the set of pairs.
module _ (P Q : Plan) where
  -- So is the test of it, and the same pairs have the same order.
  pub before_same : ((u v : ℕ) → Before P u v ↔ Before Q u v) → (u v : ℕ) → before P u v ≡ before Q u v
  before_same order u v =
      says_before Q (before P u v) u v (λ t. (order u v).0 ((before_test P u v).0 t), λ b. (before_test P u v).1 ((order u v).1 b))
