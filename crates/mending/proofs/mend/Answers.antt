-- The tests tell the call's fault; without one the reasons are copied from a row of the call's own, and the clean sheet is put.
use Rattle.std.proofs.Common.{◌≤◌, arith, ◌≡◌, sym, ap, subst, ◌∙◌, length, length-take-le}
use Rattle.std.proofs.lemmas.Result.{err_from_is_err_and}
use Rattle.sheet.specs.Laid.{Laid}
use Rattle.sheet.specs.Table.{pairs_of}
use Rattle.mending.proofs.Answers.{by_sheet, by_reasons, by_clean, few, stands, refused, known, mended}
use Rattle.mending.proofs.mend.Goals as goal

pub returns-in_err-sheet : goal.returns-in_err-sheet
returns-in_err-sheet c =
    let e = err_from_is_err_and c.from_residual.result c.from_residual.ensures.1 in
    let all = refused _ _ _ _ (by_sheet _ _ _ _ c.in_err-sheet.ensures.fault) in
    record { result_value = rw (e.1, e.2) all.0; clean_value = all.1.0; reasons_value = all.1.1 }

pub returns-in_err-find_room : goal.returns-in_err-find_room
returns-in_err-find_room c =
    let e = err_from_is_err_and c.from_residual-in_err-find_room.result c.from_residual-in_err-find_room.ensures.1 in
    let sheet = c.in_ok-sheet.ensures in
    let all = refused _ _ _ _ (by_reasons _ _ _ _ _ sheet.fault sheet.found.0 c.pairs-pairs.ensures _ c.in_err-find_room.ensures) in
    record { result_value = rw (e.1, e.2) all.0; clean_value = all.1.0; reasons_value = all.1.1 }

pub returns-in_err-find_room-2 : goal.returns-in_err-find_room-2
returns-in_err-find_room-2 c =
    let e = err_from_is_err_and c.from_residual-in_err-find_room-2.result c.from_residual-in_err-find_room-2.ensures.1 in
    let sheet = c.in_ok-sheet.ensures in
    let all = refused _ _ _ _ (by_clean _ _ _ _ _ sheet.fault sheet.found.0 c.pairs-pairs.ensures c.in_ok-find_room.ensures c.in_err-find_room-2.ensures) in
    record { result_value = rw (e.1, e.2) all.0; clean_value = all.1.0; reasons_value = all.1.1 }

pub slice_bounds-given-end : goal.slice_bounds-given-end
slice_bounds-given-end c =
    let sheet = c.in_ok-sheet.ensures in
    few _ _ _ _ sheet.fault sheet.found.0 c.pairs-pairs.ensures (omega arith)

pub slice_bounds-copy_from_slice-end-3 : goal.slice_bounds-copy_from_slice-end-3
slice_bounds-copy_from_slice-end-3 c =
    let sheet = c.in_ok-sheet.ensures in
    sym (length-take-le _ _ (few _ _ _ _ sheet.fault sheet.found.0 c.pairs-pairs.ensures (omega arith)))

pub copy_from_slice-requires : goal.copy_from_slice-requires
copy_from_slice-requires c =
    let sheet = c.in_ok-sheet.ensures in
    let none = by_clean _ _ _ _ _ sheet.fault sheet.found.0 c.pairs-pairs.ensures c.in_ok-find_room.ensures c.in_ok-find_room-2.ensures in
    let room : c.pairs-pairs.result ≤ length c.args.reasons.now =
    omega (arith, c.pairs-pairs.ensures, ap pairs_of sheet.found.0, (known _ _ _ none).reasons_long) in
    length-take-le _ _ room ∙ sym (length-take-le _ _ (few _ _ _ _ sheet.fault sheet.found.0 c.pairs-pairs.ensures (omega arith)))

pub put_clean-requires-clause-laid : goal.put_clean-requires-clause-laid
put_clean-requires-clause-laid c = let sheet = c.in_ok-sheet.ensures in subst Laid (sym sheet.found.0) (stands _ sheet.fault)

pub returns : goal.returns
returns c =
    let sheet = c.in_ok-sheet.ensures in
    let none = by_clean _ _ _ _ _ sheet.fault sheet.found.0 c.pairs-pairs.ensures c.in_ok-find_room.ensures c.in_ok-find_room-2.ensures in
    let is : c.pairs-pairs.result ≡ pairs_of c.args.s.now = c.pairs-pairs.ensures ∙ ap pairs_of sheet.found.0 in
    let long = few _ _ _ _ sheet.fault sheet.found.0 c.pairs-pairs.ensures (omega arith) in
    let put = rw sheet.found.0 at c.put_clean.ensures in
    let all = mended _ _ _ none _ _ _ _ _ _ put sheet.found.1.written is long c.copy_from_slice.ensures.after in
    record { result_value = all.0; clean_value = all.1.0; reasons_value = all.1.1 }
