-- The layout of a sheet: that it is what the sheet's table says, and that its counts are within the limits. Document 01, "The sheet".
use Rattle.std.specs.Prelude.{ℕ, ◌<◌, ◌≤◌, List, ◌≡◌}
use Rattle.std.proofs.Common.{arith}
use Rattle.ids.specs.Limits.{most_places, most_transitions, most_events, most_pairs}
use Rattle.sheet.specs.Table.{start, places_of, transitions_of, events_of, pairs_of}
use Rattle.sheet.specs.Laid.{Limited, Laid}
use Rattle.layout.specs.declared.Layout.{Layout}

-- where the bodies start, written as definitions are
abbrev pub places_at : Layout → ℕ
places_at l = l.places_at

abbrev pub transitions_at : Layout → ℕ
transitions_at l = l.transitions_at

abbrev pub events_at : Layout → ℕ
events_at l = l.events_at

abbrev pub pairs_at : Layout → ℕ
pairs_at l = l.pairs_at

-- the layout that the table of the sheet says
pub record LayoutOf (s : List ℕ) (l : Layout) : Type 0 where
  pub places : l.places ≡ places_of s
  pub transitions : l.transitions ≡ transitions_of s
  pub events : l.events ≡ events_of s
  pub pairs : l.pairs ≡ pairs_of s
  pub places_at_lem : places_at l ≡ start s 0
  pub transitions_at_lem : transitions_at l ≡ start s 1
  pub events_at_lem : events_at l ≡ start s 2
  pub pairs_at_lem : pairs_at l ≡ start s 3

-- The sheet has no fault of its layout, and this is it.
abbrev pub LaidBy : List ℕ → Layout → Type 0
LaidBy s l = Laid s × LayoutOf s l

-- The counts are such as a sheet may have, so that they can be added up.
pub record WithinLimits (l : Layout) : Type 0 where
  pub places : l.places ≤ most_places
  pub transitions : l.transitions ≤ most_transitions
  pub events : l.events ≤ most_events
  pub pairs : l.pairs ≤ most_pairs

-- The starts are numbers of 4 bytes, so that the length of a body can be added to each.
pub record FourBytes (l : Layout) : Type 0 where
  pub places : places_at l < 4294967296
  pub transitions : transitions_at l < 4294967296
  pub events : events_at l < 4294967296
  pub pairs : pairs_at l < 4294967296

pub within : (s : List ℕ) (l : Layout) → Limited s → LayoutOf s l → WithinLimits l
within s l known is = record { places = omega arith; transitions = omega arith; events = omega arith; pairs = omega arith }
