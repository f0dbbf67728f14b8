-- The order of a plan: before, independent events and their count, chains, skeleton pairs. Document 01, "Net, plan and verdict", and document 02,
-- A6; 003, section 2, and 002, section 3.
use Rattle.std.specs.Prelude.{ℕ, zero, suc, ◌<◌, Bool, false, not, ◌&&◌, ◌||◌, ◌⊎◌, ◌≡◌, eqb}
use Rattle.finite.specs.Bounded.{any}
use Rattle.finite.specs.Pairs.{count_pairs}
use Rattle.plan.specs.Net.{Plan}

-- "Before" is the transitive closure of the pairs: the order < of 003, definition 1.
pub data Before (P : Plan) : ℕ → ℕ → Type 0 where
  pair : (i : ℕ) → i < P.pairs → Before P (P.earlier i) (P.later i)
  chain : {u v w : ℕ} → Before P u v → Before P v w → Before P u w

-- The test of it, by the first k pairs: an added pair joins what reaches its earlier end to what its later end reaches.
-- `Closure.before-test` says that the test passes exactly if `Before` holds.
unfoldable pub before_by : Plan → ℕ → ℕ → ℕ → Bool
before_by P zero u v = false
before_by P (suc k) u v =
    before_by P k u v || ((eqb u (P.earlier k) || before_by P k u (P.earlier k)) && (eqb v (P.later k) || before_by P k (P.later k) v))

unfoldable pub before : Plan → ℕ → ℕ → Bool
before P u v = before_by P P.pairs u v

-- A plan whose pairs name events.
pub record Named (P : Plan) : Type 0 where
  pub earlier : (i : ℕ) → i < P.pairs → P.earlier i < P.events
  pub later : (i : ℕ) → i < P.pairs → P.later i < P.events

-- A plan whose pairs name events and whose order has no cycle. 003, definition 1: < is irreflexive.
pub record Sound (P : Plan) : Type 0 where
  pub earlier_named : (i : ℕ) → i < P.pairs → P.earlier i < P.events
  pub later_named : (i : ℕ) → i < P.pairs → P.later i < P.events
  pub acyclic : (v : ℕ) → ¬ Before P v v

-- Two different events are free of each other if neither is before the other (document 02, A6). 002, section 3: they are independent.
pub record Independent (P : Plan) (u v : ℕ) : Type 0 where
  pub different : ¬ (u ≡ v)
  pub not_before : ¬ Before P u v
  pub not_after : ¬ Before P v u

-- The test of it. `Closure.independent-test` says that it passes exactly if two are independent.
unfoldable pub independent : Plan → ℕ → ℕ → Bool
independent P u v = not (eqb u v) && (not (before P u v) && not (before P v u))

-- The free count: the number of unordered pairs of events that are free of each other.
unfoldable pub free_count : Plan → ℕ
free_count P = count_pairs P.events (independent P)

-- A chain: of any two different events one is before the other. 002, section 3: the order is total.
pub record IsChain (P : Plan) : Type 0 where
  pub ordered : (u v : ℕ) → u < P.events → v < P.events → ¬ (u ≡ v) → Before P u v ⊎ Before P v u

-- A pair is a skeleton pair if no event lies between its two ends. 003: an arc of the transitive reduction.
unfoldable pub skeleton : Plan → ℕ → Bool
skeleton P i = not (any P.events (λ w. before P (P.earlier i) w && before P w (P.later i)))
