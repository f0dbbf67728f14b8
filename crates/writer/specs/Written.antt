-- The bytes of a sheet that says a net and a plan. Document 01, "The sheet": a table of contents, then the bodies in the same order, without gaps.
use Rattle.std.specs.Prelude.{ℕ, ◌+◌, ◌*◌, List, ◌++◌}
use Rattle.finite.specs.Each.{each}
use Rattle.layout.specs.declared.Layout.{Layout}
use Rattle.layout.specs.Layout.{places_at, transitions_at, events_at, pairs_at}
use Rattle.numbers.specs.Number.{bytes}
use Rattle.plan.specs.Net.{Net, Plan}
use Rattle.sheet.specs.Table.{table_length}

-- where the bodies start in a sheet that has so many places, transitions, events and pairs
abbrev pub layout_for : ℕ → ℕ → ℕ → ℕ → Layout
layout_for places transitions events pairs =
    record {
      places = places;
      transitions = transitions;
      events = events;
      pairs = pairs;
      places_at = table_length;
      transitions_at = table_length + 4 * places;
      events_at = table_length + 4 * places + 4 * places * transitions;
      pairs_at = table_length + 4 * places + 4 * places * transitions + 2 * events;
    }

-- an entry of the table: a start and an item count, 4 bytes each
unfoldable pub entry : ℕ → ℕ → List ℕ
entry start count = bytes 4 start ++ bytes 4 count

-- the table of contents that says a layout
unfoldable pub table : Layout → List ℕ
table l =
    entry (places_at l) l.places ++ entry (transitions_at l) l.transitions ++ entry (events_at l) l.events ++ entry (pairs_at l) l.pairs

-- places: opening count, 4 bytes
unfoldable pub opening_bytes : Net → List ℕ
opening_bytes N = each N.places (λ p. bytes 4 (N.opening p))

-- transitions: takes for each place, then gives for each place, 2 bytes each
unfoldable pub transition_bytes : Net → ℕ → List ℕ
transition_bytes N t = each N.places (λ p. bytes 2 (N.takes t p)) ++ each N.places (λ p. bytes 2 (N.gives t p))

unfoldable pub weight_bytes : Net → List ℕ
weight_bytes N = each N.transitions (transition_bytes N)

-- events: transition number, 2 bytes
unfoldable pub label_bytes : Plan → List ℕ
label_bytes P = each P.events (λ v. bytes 2 (P.label v))

-- pairs: earlier event, later event, 2 bytes each
unfoldable pub pair_bytes : ℕ → ℕ → List ℕ
pair_bytes a b = bytes 2 a ++ bytes 2 b

unfoldable pub order_bytes : Plan → List ℕ
order_bytes P = each P.pairs (λ i. pair_bytes (P.earlier i) (P.later i))

-- what stands between the table and the pairs
unfoldable pub body_bytes : Net → Plan → List ℕ
body_bytes N P = opening_bytes N ++ weight_bytes N ++ label_bytes P

-- the layout of a sheet that says N and P
abbrev pub layout_of : Net → Plan → Layout
layout_of N P = layout_for N.places N.transitions P.events P.pairs

unfoldable pub bytes_of : Net → Plan → List ℕ
bytes_of N P = table (layout_of N P) ++ body_bytes N P ++ order_bytes P
