-- Rests on `Amounts.left-none` where the mark goes with the last tokens, and on `left_some` where some are left.
use Rattle.std.proofs.Common.{arith, rules}
use Rattle.tokenflow.proofs.Amounts.{left_some, left_none}
use Rattle.tokenflow.proofs.lower.Goals as goal

pub returns-then-have-k : goal.returns-then-have-k
returns-then-have-k c =
    let p = left_none c.args.amount.now c.args.fed.now c.args.u.0 c.args.w.0 c.args.k (search rules) (search rules) (search rules) c.requires.t.0 _ c.unmark.ensures (omega arith) in
    record { raised = p.0; exact = p.1 }

pub returns-else-have-k : goal.returns-else-have-k
returns-else-have-k c =
    let p = left_some c.args.amount.now c.args.fed.now c.args.u.0 c.args.w.0 c.args.k (search rules) (search rules) (search rules) c.requires.t.0 _ (omega arith) (omega arith) in
    record { raised = p.0; exact = p.1 }
