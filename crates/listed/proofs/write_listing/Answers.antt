-- The text is put into a row of its own, and copied from there if it fits.
use Rattle.std.proofs.Common.{refl}
use Rattle.std.proofs.lemmas.Result.{err_from_is_err_and}
use Rattle.listed.proofs.Copying.{refused, row_kept, written, row_written}
use Rattle.listed.proofs.write_listing.Goals as goal

pub returns-in_err-find_room-clause-result_value : goal.returns-in_err-find_room-clause-result_value
returns-in_err-find_room-clause-result_value c =
    let e = err_from_is_err_and c.from_residual.result c.from_residual.ensures.1 in
    rw (e.1, e.2) (refused _ _ _ refl c.put_listing.ensures.put _ c.in_err-find_room.ensures)

pub returns-in_err-find_room-clause-row_value : goal.returns-in_err-find_room-clause-row_value
returns-in_err-find_room-clause-row_value c =
    row_kept _ _ _ refl c.put_listing.ensures.put _ c.in_err-find_room.ensures

pub returns-clause-result_value : goal.returns-clause-result_value
returns-clause-result_value c =
    written _ _ _ refl c.put_listing.ensures.put c.in_ok-find_room.ensures

pub returns-clause-row_value : goal.returns-clause-row_value
returns-clause-row_value c =
    row_written _ _ _ refl c.put_listing.ensures.put c.in_ok-find_room.ensures _ _ _ refl c.put_word.ensures
