-- The items of a sheet, and the net and the plan that they are. Document 01, "The sheet".
use Rattle.std.specs.Prelude.{ℕ, ◌+◌, ◌*◌, List}
use Rattle.numbers.specs.Number.{number}
use Rattle.plan.specs.Net.{Net, Plan}
use Rattle.sheet.specs.Table.{item, places_of, transitions_of, events_of, pairs_of}

-- places: opening count, 4 bytes
unfoldable pub opening_at : List ℕ → ℕ → ℕ
opening_at s p = number 4 s (item s 0 p)

-- transitions: takes for each place, then gives for each place, 2 bytes each
unfoldable pub takes_at : List ℕ → ℕ → ℕ → ℕ
takes_at s t p = number 2 s (item s 1 t + 2 * p)

unfoldable pub gives_at : List ℕ → ℕ → ℕ → ℕ
gives_at s t p = number 2 s (item s 1 t + 2 * (places_of s + p))

-- events: transition number, 2 bytes
unfoldable pub label_at : List ℕ → ℕ → ℕ
label_at s v = number 2 s (item s 2 v)

-- pairs: earlier event, later event, 2 bytes each
unfoldable pub earlier_at : List ℕ → ℕ → ℕ
earlier_at s i = number 2 s (item s 3 i)

unfoldable pub later_at : List ℕ → ℕ → ℕ
later_at s i = number 2 s (item s 3 i + 2)

-- the net of a sheet
abbrev pub net_of : List ℕ → Net
net_of s =
    record {
      places = places_of s;
      transitions = transitions_of s;
      opening = opening_at s;
      takes = takes_at s;
      gives = gives_at s;
    }

-- the plan of a sheet
abbrev pub plan_of : List ℕ → Plan
plan_of s =
    record {
      events = events_of s;
      label = label_at s;
      pairs = pairs_of s;
      earlier = earlier_at s;
      later = later_at s;
    }
