-- The chain tells the call's fault; without one the counts stand in the row, and the totals are what these come to.
use Rattle.std.proofs.Common.{arith, refl}
use Rattle.std.proofs.lemmas.Result.{err_from_is_err_and}
use Rattle.plan_judgement.proofs.Answers.{faulty, short, long, judged}
use Rattle.plan_judgement.specs.CountsInRow.{small_counts}
use Rattle.plan_judgement.proofs.judge_plan.Goals as goal

pub returns-in_err-sheet : goal.returns-in_err-sheet
returns-in_err-sheet c =
    let e = err_from_is_err_and c.from_residual.result c.from_residual.ensures.1 in
    let told = rw c.in_err-sheet.was at c.examine.ensures.fault in
    let all = faulty _ c.args.row.now _ told in
    record { result_value = rw (e.1, e.2) all.0; row_value = all.1 }

pub returns-in_err-find_room : goal.returns-in_err-find_room
returns-in_err-find_room c =
    let e = err_from_is_err_and c.from_residual-in_err-find_room.result c.from_residual-in_err-find_room.ensures.1 in
    let places = rw c.in_ok-sheet.ensures.found.0 at c.places-places.ensures in
    let all = short _ c.args.row.now c.in_ok-sheet.ensures.fault _ (rw places at c.in_err-find_room.ensures) in
    record { result_value = rw (e.1, e.2) all.0; row_value = all.1 }

pub sum_up-requires : goal.sum_up-requires
sum_up-requires c =
    let found = c.in_ok-sheet.ensures.found in
    let counted = rw found.0 at c.count_all.ensures.0 in
    let places = rw found.0 at c.places-places.ensures in
    let room = rw places at c.in_ok-find_room.ensures in
    rw places (small_counts _ found.1 _ refl _ _ counted, omega (arith, counted.size, long _ c.args.row.now c.in_ok-sheet.ensures.fault room))

pub returns : goal.returns
returns c =
    let found = c.in_ok-sheet.ensures.found in
    let counted = rw found.0 at c.count_all.ensures.0 in
    let places = rw found.0 at c.places-places.ensures in
    let room = rw places at c.in_ok-find_room.ensures in
    let all = judged _ c.args.row.now c.in_ok-sheet.ensures.fault room _ counted _ (rw places at c.sum_up.ensures) found.1 in
    record { result_value = all.0; row_value = all.1 }
