-- Test after test, in the order of the list: a test that failed says that its fault is absent, and the first that passed is told. The layout is
-- read once the table is there.
use Rattle.std.proofs.Common.{ap, refl, rules, sym}
use Rattle.std.proofs.lemmas.Result.{err_from_is_err_and}
use Rattle.sheet.specs.Answered.{told_some}
use Rattle.sheet.specs.Chain.{told}
use Rattle.sheet.specs.Told.{Told}
use Rattle.sheet.specs.Laid.{whole}
use Rattle.sheet.proofs.Faultless.{layout_laid}
use Rattle.sheet.proofs.Laid.{limited}
use Rattle.layout.specs.Layout.{within}
use Rattle.layout.proofs.Table.{fault_1, fault_2, fault_starts, fault_end}
use Rattle.layout.proofs.find_layout.Goals as goal

pub returns-then-too_short-clause-fault : goal.returns-then-too_short-clause-fault
returns-then-too_short-clause-fault c = fault_1 _ (search told)

pub layout_of-l-requires : goal.layout_of-l-requires
layout_of-l-requires c = whole c.args.s.now (search told)

pub returns-then-over_limit-clause-fault : goal.returns-then-over_limit-clause-fault
returns-then-over_limit-clause-fault c = fault_2 _ (search told) (told (c.over_limit.ensures _ c.layout_of-l.ensures.0) c.if-over_limit.true)

pub check_starts-requires : goal.check_starts-requires
check_starts-requires c =
    let is = c.layout_of-l.ensures.0 in
    (within _ _ (limited _ (search told) (told (c.over_limit.ensures _ is) c.if-over_limit.false)) is, c.layout_of-l.ensures.1)

pub returns-in_err-check_starts-clause-fault : goal.returns-in_err-check_starts-clause-fault
returns-in_err-check_starts-clause-fault c =
    let is = c.layout_of-l.ensures.0 in
    let no-2 = told (c.over_limit.ensures _ is) c.if-over_limit.false in
    let e = err_from_is_err_and c.from_residual.result c.from_residual.ensures.1 in
    rw (e.1, e.2) (fault_starts _ (search told) no-2 _ (c.in_err-check_starts.ensures _ is) (told_some _))

pub check_end-requires-clause-within_limits : goal.check_end-requires-clause-within_limits
check_end-requires-clause-within_limits c =
    let is = c.layout_of-l.ensures.0 in
    (within _ _ (limited _ (told c.too_short.ensures c.if-too_short.false) (told (c.over_limit.ensures _ is) c.if-over_limit.false)) is, c.layout_of-l.ensures.1)

pub returns-in_err-check_end-clause-fault : goal.returns-in_err-check_end-clause-fault
returns-in_err-check_end-clause-fault c =
    let is = c.layout_of-l.ensures.0 in
    let no-2 = told (c.over_limit.ensures _ is) c.if-over_limit.false in
    fault_end _ (search told) no-2 _ (c.in_ok-check_starts.ensures _ is) refl _ (search rules)

pub returns-clause-fault : goal.returns-clause-fault
returns-clause-fault c =
    let is = c.layout_of-l.ensures.0 in
    let no-2 = told (c.over_limit.ensures _ is) c.if-over_limit.false in
    fault_end _ (search told) no-2 _ (c.in_ok-check_starts.ensures _ is) refl _ (c.in_ok-check_end.ensures)

pub returns-clause-laid : goal.returns-clause-laid
returns-clause-laid c =
    let is = c.layout_of-l.ensures.0 in
    let no-2 = told (c.over_limit.ensures _ is) c.if-over_limit.false in
    let clear = fault_end _ (search told) no-2 _ (c.in_ok-check_starts.ensures _ is) refl _ (c.in_ok-check_end.ensures) in
    (layout_laid _ (ap (λ (t : Told). t.number) (sym clear)), is)
