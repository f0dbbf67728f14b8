-- The invariant: the places below p are counted, and the done set of the first short one of them is kept; the rows are for the plan's events as before, and are those that were lent.
use Rattle.std.proofs.Common.{◌≤◌, ◌≡◌}
use Rattle.finite.specs.Filled.{Filled}
use Rattle.least.specs.PlaceRows.{RowsFor}
use Rattle.sheet.specs.Table.{places_of, events_of}
use Rattle.place_counts.specs.Asked.{asked_at}
use Rattle.place_counts.specs.First.{FirstTo}
use Rattle.tokenflow.specs.Lent.{rows_in}
use Rattle.place_counts.proofs.count_places.Given as goal

abbrev pub invariant-loop-p : goal.invariant-loop-p
invariant-loop-p l =
    record {
      in_range : l.p ≤ places_of l.sheet.bytes.now;
      counted : Filled (asked_at l.least l.sheet.bytes.now) l.p l.initial.row l.row;
      known : FirstTo l.sheet.bytes.now l.p l.first;
      rows : RowsFor (events_of l.sheet.bytes.now) l.flow.amount.now l.flow.fed.now;
      same_rows : (rows_in l.flow).names ≡ (rows_in l.initial.flow).names;
    }
