-- The table of contents of a sheet. Document 01, "The sheet": four entries of 8 bytes, each a start and an item count.
use Rattle.std.specs.Prelude.{ℕ, zero, suc, ◌+◌, ◌*◌, List, [], ◌∷◌, get_or}
use Rattle.ids.specs.Limits.{most_places, most_transitions, most_events, most_pairs}
use Rattle.numbers.specs.Number.{number}

-- the bytes of the table
abbrev pub table_length : ℕ
table_length = 32

-- the start of entry e's body (4 bytes, from the sheet's beginning)
unfoldable pub start : List ℕ → ℕ → ℕ
start s e = number 4 s (8 * e)

-- the item count of entry e (4 bytes)
unfoldable pub count : List ℕ → ℕ → ℕ
count s e = number 4 s (8 * e + 4)

-- the four entries
abbrev pub places_of : List ℕ → ℕ
places_of s = count s 0

abbrev pub transitions_of : List ℕ → ℕ
transitions_of s = count s 1

abbrev pub events_of : List ℕ → ℕ
events_of s = count s 2

abbrev pub pairs_of : List ℕ → ℕ
pairs_of s = count s 3

-- most items: places, transitions, events, pairs
unfoldable pub limit : ℕ → ℕ
limit e = get_or (most_places ∷ most_transitions ∷ most_events ∷ most_pairs ∷ []) e 0

-- the bytes of one item: an opening count; takes and gives for each place; a transition number; two event numbers
unfoldable pub item_length : List ℕ → ℕ → ℕ
item_length s e = get_or (4 ∷ 4 * places_of s ∷ 2 ∷ 4 ∷ []) e 0

-- where item i of entry e stands
unfoldable pub item : List ℕ → ℕ → ℕ → ℕ
item s e i = start s e + item_length s e * i

-- where the body of entry e ends
unfoldable pub body_end : List ℕ → ℕ → ℕ
body_end s e = item s e (count s e)

-- Bodies follow in the same order, without gaps; the first starts where the table ends.
unfoldable pub due : List ℕ → ℕ → ℕ
due s zero = table_length
due s (suc e) = body_end s e
