-- A plan whose pairs stand in two rows, that of the earlier events and that of the later ones. It has no labels of its own.
use Rattle.std.specs.Prelude.{ℕ, ◌≤◌, Bool, List, get_or}
use Rattle.finite.specs.Bounded.{any}
use Rattle.ids.specs.Limits.{most_events, most_pairs}
use Rattle.plan.specs.Net.{Plan}
use Rattle.plan.specs.Order.{before, Named}

abbrev pub plan_by : ℕ → ℕ → List ℕ → List ℕ → Plan
plan_by events pairs from to =
    record {
      events = events;
      label = λ v. 0;
      pairs = pairs;
      earlier = λ i. get_or from i 0;
      later = λ i. get_or to i 0;
    }

-- It is within the limits, and its pairs name events.
pub record PlanInRows (events pairs : ℕ) (from to : List ℕ) : Type 0 where
  pub few : events ≤ most_events
  pub most : pairs ≤ most_pairs
  pub named : Named (plan_by events pairs from to)

-- Some event is before itself.
unfoldable pub has_cycle : Plan → Bool
has_cycle P = any P.events (λ v. before P v v)
