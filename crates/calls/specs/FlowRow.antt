-- A lent flow row. Document 01, "Compact tokenflow": a number for each order pair, then a share of the opening count for each event.
use Rattle.std.specs.Prelude.{ℕ, ◌+◌, List, get_or}
use Rattle.plan.specs.Flow.{Flow}
use Rattle.sheet.specs.Table.{events_of, pairs_of}
use Rattle.sheet.specs.Told.{Told}
use Rattle.calls.specs.Call.{place_fault, row_fault}

-- how many numbers it has to have
abbrev pub flow_length : List ℕ → ℕ
flow_length s = pairs_of s + events_of s

-- the flow that its numbers are
abbrev pub flow_of : List ℕ → Flow
flow_of row i = get_or row i 0

-- the fault of a call that is lent a sheet and a flow row for one place
unfoldable pub flow_fault : List ℕ → ℕ → List ℕ → Told
flow_fault s p row = row_fault (place_fault s p) row (flow_length s)
