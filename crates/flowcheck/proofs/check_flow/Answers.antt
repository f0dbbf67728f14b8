-- The chain of faults comes first: the sheet's own, the place's and the row's. Where there is none the rules decide.
use Rattle.std.proofs.Common.{rules}
use Rattle.order.specs.Rows.{both_wanted}
use Rattle.flowcheck.proofs.Answers.{sheet_refused, place_refused, room_refused, known, long, checked}
use Rattle.flowcheck.proofs.check_flow.Goals as goal

pub returns-in_err-sheet : goal.returns-in_err-sheet
returns-in_err-sheet c = sheet_refused _ _ _ c.in_err-sheet.field-0.0 (search rules) c.in_err-sheet.ensures.fault

pub returns-in_err-find_place : goal.returns-in_err-find_place
returns-in_err-find_place c =
    let sheet = c.in_ok-sheet.ensures in
    place_refused _ _ _ sheet.fault c.in_err-find_place.field-0.0 (search rules) (rw sheet.found.0 at c.in_err-find_place.ensures)

pub returns-in_err-find_room : goal.returns-in_err-find_room
returns-in_err-find_room c =
    let sheet = c.in_ok-sheet.ensures in
    let same = sheet.found.0 in
    room_refused _ _ _ sheet.fault (rw same at c.in_ok-find_place.ensures) c.in_err-find_room.field-0.0 (search rules) (rw (c.pairs.ensures, c.events.ensures, same) at c.in_err-find_room.ensures)

pub is_valid-requires : goal.is_valid-requires
is_valid-requires c =
    let sheet = c.in_ok-sheet.ensures in
    let same = sheet.found.0 in
    let place = rw same at c.in_ok-find_place.ensures in
    let room = rw (c.pairs.ensures, c.events.ensures, same) at c.in_ok-find_room.ensures in
    rw
    same
    (record {
      faultless = sheet.found.1;
      known = known c.args.s.now _ c.args.row.now sheet.fault place;
      room = long c.args.s.now c.args.p.0 _ sheet.fault place room;
      order_rows = both_wanted _ _ _ _ tt tt sheet.found.2;
    })

pub returns : goal.returns
returns c =
    let sheet = c.in_ok-sheet.ensures in
    let same = sheet.found.0 in
    let place = rw same at c.in_ok-find_place.ensures in
    let room = rw (c.pairs.ensures, c.events.ensures, same) at c.in_ok-find_room.ensures in
    checked _ _ _ sheet.fault place room (rw same at c.is_valid.ensures)
