-- The rows that are filled from the sheet are those of its place.
use Rattle.sheet.specs.Items.{net_of, plan_of}
use Rattle.least.specs.Settled.{settled_rows}
use Rattle.place.specs.Place.{sheet_rows}
use Rattle.place.proofs.settle_place.Goals as goal

pub settle_rows-requires-clause-some_place : goal.settle_rows-requires-clause-some_place
settle_rows-requires-clause-some_place c =
    (net_of _, plan_of _, _, sheet_rows _ c.requires.faultless _ _ c.requires.known c.events.ensures _ _ _ _ _ c.requires.predecessors c.fill.ensures.gives c.fill.ensures.takes)

pub returns-clause-settled : goal.returns-clause-settled
returns-clause-settled c =
    let rows = sheet_rows _ c.requires.faultless _ _ c.requires.known c.events.ensures _ _ _ _ _ c.requires.predecessors c.fill.ensures.gives c.fill.ensures.takes in
    (_, settled_rows (c.settle_rows.ensures.settles _ _ _ rows))
