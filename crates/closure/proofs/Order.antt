-- What the order of the queue says of pairs: all pairs to an event start before it.
use Prim.Native.Nat.{ℕ, ◌+◌, ◌<◌}
use native.Mathlib.Omega.{arith}
use mathlib.Core.List.{List}
use mathlib.Core.Logic.{◌⊎◌, inl, inr}
use mathlib.Core.Path.{◌≡◌, sym, ap, ◌∙◌}
use lib.ListN.{get_or}
use Rattle.closure.specs.InOrder.{starts_below}
use Rattle.finite.specs.Queue.{below_next}
use Rattle.plan.specs.Net.{Plan}
use Rattle.plan.specs.Order.{Named}
use Rattle.sorting.specs.Arranged.{Arranged}

module _ (P : Plan) (queue : List ℕ) (arranged : Arranged P queue) where
  module _ (h : ℕ) (place : h < P.events) where
    -- the pairs to the event at h start below it
    pub to_it : (i : ℕ) → i < P.pairs → P.later i ≡ get_or queue h 0 → starts_below P queue h i
    to_it i l e = arranged.ordered h i place l e

    pub next_below : (i : ℕ) → starts_below P queue (h + 1) i → starts_below P queue h i ⊎ (P.earlier i ≡ get_or queue h 0)
    next_below i at =
        below_next
        h
        at.0
        at.1
        (λ low. inl (at.0, low, at.2))
        (λ e. inr (sym at.2 ∙ ap (λ (k : ℕ). get_or queue k 0) e))

  -- no pair starts below the first place, and each below the last
  pub none_below : (i : ℕ) → starts_below P queue 0 i → ⊥
  none_below i at = omega (arith, at.1)

  pub all_below : Named P → (i : ℕ) → i < P.pairs → starts_below P queue P.events i
  all_below named i l = let at = arranged.placed (P.earlier i) (named.earlier i l) in (at.0, at.1, at.2)
