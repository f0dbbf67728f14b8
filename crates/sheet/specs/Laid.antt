-- What is known of a sheet once faults 1, 2, 14, 15 and 4 are absent: its counts are within the limits and its bodies stand where they should.
use Rattle.std.specs.Prelude.{ℕ, suc, ◌+◌, ◌*◌, ◌<◌, ◌≤◌, false, List, ◌≡◌, length}
use Rattle.std.proofs.Common.{arith, mul-le-mul, mul-le-mul_left, mul-suc, ltb-false}
use Rattle.ids.specs.Limits.{most_places, most_transitions, most_events, most_pairs}
use Rattle.sheet.specs.Table.{table_length, start, places_of, transitions_of, events_of, pairs_of}
use Rattle.sheet.specs.Faults.{too_short}

-- faults 1 and 2 are absent
pub record Limited (s : List ℕ) : Type 0 where
  pub table : table_length ≤ length s
  pub places : places_of s ≤ most_places
  pub transitions : transitions_of s ≤ most_transitions
  pub events : events_of s ≤ most_events
  pub pairs : pairs_of s ≤ most_pairs

-- faults 1, 2, 14, 15 and 4 are absent
pub record Laid (s : List ℕ) : Type 0 where
  pub limited : Limited s
  pub places_start : start s 0 ≡ table_length
  pub transitions_start : start s 1 ≡ start s 0 + 4 * places_of s
  pub events_start : start s 2 ≡ start s 1 + 4 * places_of s * transitions_of s
  pub pairs_start : start s 3 ≡ start s 2 + 2 * events_of s
  pub end : length s ≡ start s 3 + 4 * pairs_of s

pub whole : (s : List ℕ) → too_short s ≡ false → table_length ≤ length s
unfolding too_short
whole s absent = ltb-false (length s) table_length absent

-- an item of n lies within their body
pub item_within : (k i n : ℕ) → i < n → k * i + k ≤ k * n
item_within k i n l = rw mul-suc at (mul-le-mul_left {m = suc i} k l)

-- how far the items of some transitions reach
pub weights_fit : (places transitions : ℕ) → places ≤ most_places → transitions ≤ most_transitions → 4 * places * transitions ≤ 4 * most_places * most_transitions
weights_fit places transitions l m = mul-le-mul {n₁ = 4 * places} {n₂ = 4 * most_places} (omega arith) m

-- the bytes of a sheet with the most items of each kind
abbrev pub longest_sheet : ℕ
longest_sheet = table_length + 4 * most_places + 4 * most_places * most_transitions + 2 * most_events + 4 * most_pairs

pub longest : (s : List ℕ) → Laid s → length s ≤ longest_sheet
longest s known = omega (arith, weights_fit (places_of s) (transitions_of s) known.limited.places known.limited.transitions)

-- A transition's item lies within the sheet. Where the length of an item is known, the starts say so by themselves.
pub transition_within : (s : List ℕ) → Laid s → (t : ℕ) → t < transitions_of s → start s 1 + 4 * places_of s * t + 4 * places_of s ≤ length s
transition_within s known t l = omega (arith, item_within (4 * places_of s) t (transitions_of s) l)
