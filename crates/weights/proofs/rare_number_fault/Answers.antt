-- If a weight is above the limit, the faults are looked for in their order. Else 6 is absent, so the first is 5 or 7.
use Rattle.std.proofs.Common.{refl, sym, ◌∙◌}
use Rattle.std.proofs.lemmas.Result.{err_from_is_err_and}
use Rattle.sheet.specs.Answered.{told_some}
use Rattle.sheet.specs.Chain.{here, later}
use Rattle.weights.proofs.Found.{none_heavy}
use Rattle.weights.proofs.rare_number_fault.Goals as goal

pub returns-in_err-over_opening : goal.returns-in_err-over_opening
returns-in_err-over_opening c =
    let e = err_from_is_err_and c.from_residual.result c.from_residual.ensures.1 in
    rw (e.1, e.2) (here _ (none_heavy _ c.any_heavy.ensures c.if-any_heavy.false) c.in_err-over_opening.ensures (told_some _))

pub returns : goal.returns
returns c =
    c.no_transition.ensures ∙ sym (later _ (none_heavy _ c.any_heavy.ensures c.if-any_heavy.false) c.in_ok-over_opening.ensures refl)
