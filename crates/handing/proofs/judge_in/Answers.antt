-- `handing::judge_in` meets its contract: the spare count, and what is handed over of the judged place.
use Rattle.std.proofs.Common.{arith, sym, subst, ◌∙◌, w32, FitsSigned}
use Rattle.std.proofs.Math.Facts.{to_z-of_z}
use Rattle.least.specs.PlaceRows.{zeros_unfed}
use Rattle.handing.proofs.Given.{spare_fits, marks_done_lem}
use Rattle.handing.proofs.judge_in.Goals as goal

pub place_counts-counts-requires : goal.place_counts-counts-requires
place_counts-counts-requires c =
    let h = c.requires.judgeable in
    record { faultless = h.0; known = h.1; predecessors = h.2.ahead; rows_for = (c.requires.amounts, zeros_unfed _ 2048) }

pub hand_flow-requires : goal.hand_flow-requires
hand_flow-requires c =
    let h = c.requires.judgeable in
    record { faultless = h.0; known = h.1; order_rows = h.2; shown_by = (_, c.place_counts-counts.ensures.counted.1); room = h.3 }

pub write_marks-requires : goal.write_marks-requires
write_marks-requires c =
    let h = c.requires.judgeable in
    (omega (arith, c.events.ensures, h.0.laid.limited.events), omega (arith, c.events.ensures, h.4))

pub returns : goal.returns
returns c =
    let h = c.requires.judgeable in
    let told = c.place_counts-counts.ensures.counted in
    let fits = spare_fits _ h.0 _ h.1 in
    (to_z-of_z {w = w32} (subst (FitsSigned w32) (sym told.0) fits) ∙ told.0, marks_done_lem told.1.1 c.events.ensures c.write_marks.ensures, c.hand_flow.ensures)
