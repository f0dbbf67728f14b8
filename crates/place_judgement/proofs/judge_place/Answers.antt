-- `place_judgement::judge_place` meets its contract: the chain tells the call's fault; without one the spare count is told.
use Rattle.std.proofs.Common.{arith, ◌∙◌, w32, rules}
use Rattle.std.proofs.Math.Facts.{to_z-of_z}
use Rattle.order.specs.Rows.{both_wanted}
use Rattle.place_judgement.proofs.Answers.{sheet_refused, place_refused, known, flow_refused, flow_long, marks_refused, marks_long, judged}
use Rattle.place_judgement.proofs.judge_place.Goals as goal

pub returns-in_err-sheet : goal.returns-in_err-sheet
returns-in_err-sheet c =
    let all = sheet_refused _ _ _ _ c.in_err-sheet.field-0.0 (search rules) c.in_err-sheet.ensures.fault in
    record { result_value = all.said; marks_value = all.marked; handed = all.handed }

pub returns-in_err-find_place : goal.returns-in_err-find_place
returns-in_err-find_place c =
    let sheet = c.in_ok-sheet.ensures in
    let all = place_refused _ _ _ _ sheet.fault c.in_err-find_place.field-0.0 (search rules) (rw sheet.found.0 at c.in_err-find_place.ensures) in
    record { result_value = all.said; marks_value = all.marked; handed = all.handed }

pub returns-in_err-find_room : goal.returns-in_err-find_room
returns-in_err-find_room c =
    let sheet = c.in_ok-sheet.ensures in
    let same = sheet.found.0 in
    let place = rw same at c.in_ok-find_place.ensures in
    let all = flow_refused _ _ _ _ sheet.fault place c.in_err-find_room.field-0.0 (search rules) (rw (c.pairs.ensures, c.events.ensures, same) at c.in_err-find_room.ensures) in
    record { result_value = all.said; marks_value = all.marked; handed = all.handed }

pub returns-in_err-find_room-2 : goal.returns-in_err-find_room-2
returns-in_err-find_room-2 c =
    let sheet = c.in_ok-sheet.ensures in
    let same = sheet.found.0 in
    let place = rw same at c.in_ok-find_place.ensures in
    let room = rw (c.pairs.ensures, c.events.ensures, same) at c.in_ok-find_room.ensures in
    let all = marks_refused _ _ _ _ sheet.fault place room c.in_err-find_room-2.field-0.0 (search rules) (rw (c.events-2.ensures, same) at c.in_err-find_room-2.ensures) in
    record { result_value = all.said; marks_value = all.marked; handed = all.handed }

pub judge_within-spare-requires : goal.judge_within-spare-requires
judge_within-spare-requires c =
    let sheet = c.in_ok-sheet.ensures in
    let same = sheet.found.0 in
    let a = c.args in
    let place = rw same at c.in_ok-find_place.ensures in
    let room = rw (c.pairs.ensures, c.events.ensures, same) at c.in_ok-find_room.ensures in
    let last = rw (c.events-2.ensures, same) at c.in_ok-find_room-2.ensures in
    rw
    same
    (record {
      judgeable = (
        sheet.found.1,
        known a.s.now _ a.flow.now a.marks.now sheet.fault place,
        both_wanted _ _ _ _ tt tt sheet.found.2,
        flow_long a.s.now a.p.0 _ a.marks.now sheet.fault place room,
        marks_long a.s.now a.p.0 a.flow.now _ sheet.fault place room last,
      );
      some = omega arith;
    })

pub returns : goal.returns
returns c =
    let sheet = c.in_ok-sheet.ensures in
    let same = sheet.found.0 in
    let place = rw same at c.in_ok-find_place.ensures in
    let room = rw (c.pairs.ensures, c.events.ensures, same) at c.in_ok-find_room.ensures in
    let last = rw (c.events-2.ensures, same) at c.in_ok-find_room-2.ensures in
    let is = rw same at c.judge_within-spare.ensures in
    let told = to_z-of_z {w = w32} (record { sfits = c.judge_within-spare.type_inv }) in
    let all = judged _ _ _ _ sheet.fault place room last (told ∙ is.0) is.1 is.2 in
    record { result_value = all.said; marks_value = all.marked; handed = all.handed }
