-- What judging a place of a sheet without fault asks for, and what it tells.
use Rattle.std.specs.Prelude.{ℕ, List, ◌≤◌, ◌<◌, ◌≡◌, ℤ, length}
use Rattle.ids.specs.declared.Place.{Place}
use Rattle.calls.specs.FlowRow.{flow_length}
use Rattle.order.specs.Rows.{OrderRows}
use Rattle.place.specs.Place.{spare_at}
use Rattle.sheet.specs.Faultless.{Faultless}
use Rattle.sheet.specs.Items.{plan_of}
use Rattle.sheet.specs.Table.{places_of, events_of}
use Rattle.handing.specs.Handed.{marks_done, Written}

-- a sheet without fault and its order, one of its places, and rows that are long enough
abbrev pub Judgeable : List ℕ → Place → List ℕ → List ℕ → List ℕ → List ℕ → Type 0
Judgeable s p succ pred flow marks =
    Faultless s
    × (p.0 < places_of s)
    × OrderRows (plan_of s) succ pred
    × (flow_length s ≤ length flow)
    × (events_of s ≤ length marks)

-- the spare count, the marks and the flow row
abbrev pub JudgedBy : List ℕ → Place → List ℕ → List ℕ → List ℕ → List ℕ → ℤ → Type 0
JudgedBy s p flow flow' marks marks' spare = (spare ≡ spare_at s p.0) × (marks' ≡ marks_done s p.0 marks) × Written s p.0 flow flow'
