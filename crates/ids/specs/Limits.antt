-- How many items of each kind a sheet may have, and the sizes of rows made of that. Document 01, "The sheet".
use Rattle.std.specs.Prelude.{ℕ}

abbrev pub most_places : ℕ
most_places = 64

abbrev pub most_transitions : ℕ
most_transitions = 64

abbrev pub most_events : ℕ
most_events = 256

abbrev pub most_pairs : ℕ
most_pairs = 1024

-- the words of 32 bits in a row of marks, one mark for each event, and those of such a row for each event
abbrev pub row_words : ℕ
row_words = 8

abbrev pub rows_words : ℕ
rows_words = 2048

-- the most events of a small and of a middling plan
abbrev pub small_plan : ℕ
small_plan = 16

abbrev pub middle_plan : ℕ
middle_plan = 64

-- a number for each pair, then one for each event
abbrev pub most_flow : ℕ
most_flow = 1280
