-- What is compared: another opening count, more order, the same order by more pairs, other numbers at other places, and what is the same item by
-- item. Demand 3, document 01, "Compact tokenflow", and document 02, A1 and A6.
use Rattle.std.specs.Prelude.{ℕ, ◌+◌, ◌<◌, cond, ◌↔◌, ◌≡◌, eqb}
use Rattle.finite.specs.Sum.{on}
use Rattle.plan.specs.Net.{Net, Plan, taken_by, given_by}
use Rattle.plan.specs.Order.{Before}

-- The net with k more tokens opening at the place p, all else the same.
abbrev pub with_more : Net → ℕ → ℕ → Net
with_more N p k =
    record { places = N.places; transitions = N.transitions; opening = λ q. N.opening q + on (eqb q p) k; takes = N.takes; gives = N.gives }

-- The net with k tokens opening at the place p, all else the same.
abbrev pub opens_with : Net → ℕ → ℕ → Net
opens_with N p k =
    record { places = N.places; transitions = N.transitions; opening = λ q. cond (eqb q p) k (N.opening q); takes = N.takes; gives = N.gives }

-- The second plan has more order among the same events: the number of events and the labels are the same, and whatever is before an
-- event in the first is before it in the second too, whichever pairs say so. 001 and 002: a sequentialization.
pub record MoreOrder (P Q : Plan) : Type 0 where
  pub events : P.events ≡ Q.events
  pub labels : (v : ℕ) → v < P.events → P.label v ≡ Q.label v
  pub order : (u v : ℕ) → Before P u v → Before Q u v

-- Each pair of the first plan is one of the second's.
abbrev pub PairsAmong : Plan → Plan → Type 0
PairsAmong P Q = (i : ℕ) → i < P.pairs → (j : ℕ) × (j < Q.pairs) × (P.earlier i ≡ Q.earlier j) × (P.later i ≡ Q.later j)

-- The second plan has the pairs of the first and more, in whatever order, and the order of the first implies each of them. Read backwards,
-- pairs are dropped that the order implies without them. Document 02, A6.
pub record ImpliedPairs (P Q : Plan) : Type 0 where
  pub events : P.events ≡ Q.events
  pub kept : PairsAmong P Q
  pub implied : (j : ℕ) → j < Q.pairs → Before P (Q.earlier j) (Q.later j)

-- The same net: as many places and transitions, each with the same numbers.
pub record SameNet (N M : Net) : Type 0 where
  pub places : N.places ≡ M.places
  pub transitions : N.transitions ≡ M.transitions
  pub opening : (p : ℕ) → p < N.places → N.opening p ≡ M.opening p
  pub takes : (t p : ℕ) → t < N.transitions → p < N.places → N.takes t p ≡ M.takes t p
  pub gives : (t p : ℕ) → t < N.transitions → p < N.places → N.gives t p ≡ M.gives t p

-- The same events: as many, with the same labels.
pub record SameEvents (P Q : Plan) : Type 0 where
  pub events : P.events ≡ Q.events
  pub labels : (v : ℕ) → v < P.events → P.label v ≡ Q.label v

-- The same pairs: as many, one after another with the same ends.
pub record SamePairs (P Q : Plan) : Type 0 where
  pub pairs : P.pairs ≡ Q.pairs
  pub earlier : (i : ℕ) → i < P.pairs → P.earlier i ≡ Q.earlier i
  pub later : (i : ℕ) → i < P.pairs → P.later i ≡ Q.later i

-- Two nets with the same transitions that have the same numbers at the place p, whatever stands at the others.
pub record SameAt (p : ℕ) (N M : Net) : Type 0 where
  pub transitions : N.transitions ≡ M.transitions
  pub opening : N.opening p ≡ M.opening p
  pub takes : (t : ℕ) → t < N.transitions → N.takes t p ≡ M.takes t p
  pub gives : (t : ℕ) → t < N.transitions → N.gives t p ≡ M.gives t p

-- A place under a plan, and another, maybe of another net and under another plan: as many events, and each takes and gives the same there.
pub record SameWeights (N : Net) (P : Plan) (p : ℕ) (M : Net) (Q : Plan) (q : ℕ) : Type 0 where
  pub events : P.events ≡ Q.events
  pub takes : (v : ℕ) → v < P.events → taken_by N P p v ≡ taken_by M Q q v
  pub gives : (v : ℕ) → v < P.events → given_by N P p v ≡ given_by M Q q v

-- Two such places with the same order and the same opening count.
pub record SamePlace (N : Net) (P : Plan) (p : ℕ) (M : Net) (Q : Plan) (q : ℕ) : Type 0 where
  pub weights : SameWeights N P p M Q q
  pub order : (u v : ℕ) → Before P u v ↔ Before Q u v
  pub opening : N.opening p ≡ M.opening q
