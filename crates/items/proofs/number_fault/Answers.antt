-- Part after part, in the order of the list: a part that found nothing leaves it to the next, and the first that found something is told.
use Rattle.std.proofs.Common.{refl, sym, ◌∙◌}
use Rattle.std.proofs.lemmas.Result.{err_from_is_err_and}
use Rattle.sheet.specs.Answered.{told_some}
use Rattle.sheet.specs.Chain.{here, later}
use Rattle.items.proofs.Parts.{from_5}
use Rattle.items.proofs.number_fault.Goals as goal

pub returns-in_err-over_opening : goal.returns-in_err-over_opening
returns-in_err-over_opening c =
    let e = err_from_is_err_and c.from_residual.result c.from_residual.ensures.1 in
    rw (e.1, e.2) (here _ (from_5 _) c.in_err-over_opening.ensures (told_some _))

pub returns-in_err-over_weight : goal.returns-in_err-over_weight
returns-in_err-over_weight c =
    let e = err_from_is_err_and c.from_residual-in_err-over_weight.result c.from_residual-in_err-over_weight.ensures.1 in
    rw (e.1, e.2) (here _ (later _ (from_5 _) c.in_ok-over_opening.ensures refl) c.in_err-over_weight.ensures (told_some _))

pub returns : goal.returns
returns c = c.no_transition.ensures ∙ sym (later _ (later _ (from_5 _) c.in_ok-over_opening.ensures refl) c.in_ok-over_weight.ensures refl)
