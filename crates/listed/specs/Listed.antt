-- What a call has to say that writes a listing, and the row that it leaves. Document 01, "Calls" and "Faults of a call".
use Rattle.std.specs.Prelude.{ℕ, List, ◌++◌, length, drop}
use Rattle.calls.specs.Call.{row_fault}
use Rattle.calls.specs.Overwritten.{unless_fault}
use Rattle.calls.specs.Said.{Said, unless_refused}
use Rattle.sheet.specs.Told.{Told, no_fault}
use Rattle.lines.specs.Listing.{listing_of}

-- A faulty sheet has a listing too, which tells its fault. So the one fault of the call is 13: the row is shorter than the text.
unfoldable pub list_fault : List ℕ → List ℕ → Told
list_fault s row = row_fault no_fault row (length (listing_of s))

-- what the call has to say
unfoldable pub list_says : List ℕ → List ℕ → Said ℕ
list_says s row = unless_refused (list_fault s row) (length (listing_of s))

-- the row at return: unless the call is faulty, the text and what stood after it
unfoldable pub row_after : List ℕ → List ℕ → List ℕ
row_after s row = unless_fault (list_fault s row).number (listing_of s ++ drop (length (listing_of s)) row) row
