-- A net and a plan. Document 01, "Net, plan and verdict"; 003, definitions 1 and 2.
-- Places, transitions, events and pairs are numbered from 0. No number here has a limit.
use Rattle.std.specs.Prelude.{ℕ, ◌<◌}

-- A marked place/transition net (003, definition 2).
pub record Net : Type 0 where
  pub places : ℕ
  pub transitions : ℕ
  -- the opening count of a place: its initial marking m₀(p)
  pub opening : ℕ → ℕ
  -- what a transition takes from a place, W(p, t), and gives to it, W(t, p): first the transition, then the place
  pub takes : ℕ → ℕ → ℕ
  pub gives : ℕ → ℕ → ℕ

-- A plan: a labelled partial order (003, definition 1), given by its events, their labels and its order pairs (earlier, later).
pub record Plan : Type 0 where
  pub events : ℕ
  -- the transition of an event
  pub label : ℕ → ℕ
  pub pairs : ℕ
  -- the two ends of an order pair
  pub earlier : ℕ → ℕ
  pub later : ℕ → ℕ

-- What an event takes from a place, and gives to it.
abbrev pub taken_by : Net → Plan → ℕ → ℕ → ℕ
taken_by N P p v = N.takes (P.label v) p

abbrev pub given_by : Net → Plan → ℕ → ℕ → ℕ
given_by N P p v = N.gives (P.label v) p

-- Each event is labelled with one transition of the net.
pub record Labelled (N : Net) (P : Plan) : Type 0 where
  pub named : (v : ℕ) → v < P.events → P.label v < N.transitions
