-- Rests on what a stored number and an added mark do to the amounts: where the mark is set the number counts already (`Amounts.raised-known`), else
-- nothing does (`raised_new`).
use Rattle.std.proofs.Common.{arith, sym, subst, ◌∙◌, rules, T}
use Rattle.marks.specs.Marks.{marked}
use Rattle.tokenflow.proofs.Amounts.{fed_marked, raised_known, raised_new}
use Rattle.tokenflow.proofs.raise.Goals as goal

pub overflow_add-amount : goal.overflow_add-amount
overflow_add-amount c =
    let known : let a = c.args in T (marked a.fed.now a.u.0 a.w.0) =
    subst T (sym c.if-is_marked.true ∙ c.is_marked.ensures) tt in
    omega (arith, fed_marked c.args.amount.now _ _ _ known)

pub returns-then-is_marked : goal.returns-then-is_marked
returns-then-is_marked c =
    let known : let a = c.args in T (marked a.fed.now a.u.0 a.w.0) =
    subst T (sym c.if-is_marked.true ∙ c.is_marked.ensures) tt in
    raised_known _ _ _ _ _ (search rules) (search rules) (search rules) _ (omega arith) known

pub returns-else-is_marked : goal.returns-else-is_marked
returns-else-is_marked c = raised_new _ _ _ _ _ (search rules) (search rules) (search rules) _ (omega arith) _ (subst T (sym c.is_marked.ensures ∙ c.if-is_marked.false)) c.mark.ensures
