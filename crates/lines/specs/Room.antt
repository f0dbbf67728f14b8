-- How many bytes the lines of a listing have at most, with ten digits to a number.
use Rattle.std.specs.Prelude.{ℕ, ◌+◌, ◌*◌}
use Rattle.ids.specs.Limits.{most_places, most_events}

abbrev pub plan_room : ℕ
plan_room = 56

abbrev pub place_room : ℕ
place_room = 67

abbrev pub places_room : ℕ
places_room = most_places * place_room

abbrev pub totals_room : ℕ
totals_room = 34

-- an event after a space, and all of them
abbrev pub event_room : ℕ
event_room = 11

abbrev pub events_room : ℕ
events_room = most_events * event_room

abbrev pub first_room : ℕ
first_room = 22 + events_room

abbrev pub runs_room : ℕ
runs_room = 5

abbrev pub refused_room : ℕ
refused_room = 19

-- the lines that tell counts, and the whole listing
abbrev pub counts_room : ℕ
counts_room = plan_room + places_room + totals_room

abbrev pub listing_room : ℕ
listing_room = counts_room + first_room
