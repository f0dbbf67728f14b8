-- Read after write: the bytes that were written for a net and a plan have no fault of the layout, and say that net and that plan.
use Rattle.std.specs.Prelude.{ℕ, ◌<◌, ◌≤◌, ◌≡◌}
use mathlib.Core.List.{List}
use Rattle.ids.specs.Limits.{most_places, most_transitions, most_events, most_pairs}
use Rattle.plan.specs.Compare.{SameNet, SameEvents, SamePairs}
use Rattle.plan.specs.Net.{Net, Plan}
use Rattle.sheet.specs.Faults.{layout_faults, first_fault}
use Rattle.sheet.specs.Items.{net_of, plan_of}
use Rattle.sheet.specs.Told.{no_fault}

-- A net and a plan that a sheet can say: as many items of each kind as it may have, each number within its bytes.
pub record Writable (N : Net) (P : Plan) : Type 0 where
  pub places : N.places ≤ most_places
  pub transitions : N.transitions ≤ most_transitions
  pub events : P.events ≤ most_events
  pub pairs : P.pairs ≤ most_pairs
  pub opening : (p : ℕ) → p < N.places → N.opening p < 4294967296
  pub takes : (t p : ℕ) → t < N.transitions → p < N.places → N.takes t p < 65536
  pub gives : (t p : ℕ) → t < N.transitions → p < N.places → N.gives t p < 65536
  pub label : (v : ℕ) → v < P.events → P.label v < 65536
  pub earlier : (i : ℕ) → i < P.pairs → P.earlier i < 65536
  pub later : (i : ℕ) → i < P.pairs → P.later i < 65536

-- A sheet that says a net and a plan: no fault of the layout, and exactly their counts and items.
pub record SaysPlan (s : List ℕ) (N : Net) (P : Plan) : Type 0 where
  pub no_layout_fault : first_fault layout_faults s ≡ no_fault
  pub net : SameNet (net_of s) N
  pub events : SameEvents (plan_of s) P
  pub pairs : SamePairs (plan_of s) P
