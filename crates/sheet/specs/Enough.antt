-- How much of a longer sheet is enough to fault it. Document 01, "Calls": 21,281 bytes, one more than the longest sheet has.
use Rattle.std.specs.Prelude.{ℕ, ◌+◌, List, take}
use Rattle.sheet.specs.Laid.{longest_sheet}

abbrev pub enough_bytes : ℕ
enough_bytes = longest_sheet + 1

-- that much of a sheet
abbrev pub enough : List ℕ → List ℕ
enough s = take enough_bytes s
