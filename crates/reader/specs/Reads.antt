-- The reader of a sheet, and that its layout is the sheet's.
use Rattle.std.specs.Prelude.{ℕ, List, refl}
use Rattle.std.specs.Borrow.{Bor}
use Rattle.sheet.specs.Table.{start, places_of, transitions_of, events_of, pairs_of}
use Rattle.layout.specs.Layout.{LayoutOf}
use Rattle.layout.specs.declared.Layout.{Layout}
use Rattle.reader.specs.declared.Reader.{Reader}

-- the layout that the table of these bytes says
abbrev pub layout_of : List ℕ → Layout
layout_of s =
    record {
      places = places_of s;
      transitions = transitions_of s;
      events = events_of s;
      pairs = pairs_of s;
      places_at = start s 0;
      transitions_at = start s 1;
      events_at = start s 2;
      pairs_at = start s 3;
    }

-- which is theirs
pub laid_of : (s : List ℕ) → LayoutOf s (layout_of s)
laid_of s =
    record {
      places = refl;
      transitions = refl;
      events = refl;
      pairs = refl;
      places_at_lem = refl;
      transitions_at_lem = refl;
      events_at_lem = refl;
      pairs_at_lem = refl;
    }

-- the reader that is made of these bytes
abbrev pub reader_of : Bor (List ℕ) → Reader
reader_of sheet = record { bytes = sheet; layout = layout_of sheet.now; laid = laid_of sheet.now }

-- a reader whose layout is its sheet's
abbrev pub Reads : Reader → Type 0
Reads r = LayoutOf r.bytes.now r.layout

pub reads : (sheet : Bor (List ℕ)) → Reads (reader_of sheet)
reads sheet = laid_of sheet.now
