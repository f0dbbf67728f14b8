-- Where rule 1 fails the answer is no, and else rule 2 decides.
use Rattle.std.proofs.Common.{arith}
use Rattle.flowcheck.proofs.Tests.{kept_short, kept_rest}
use Rattle.flowcheck.proofs.rules.keeps.Goals as goal

pub returns-then-arrived-from : goal.returns-then-arrived-from
returns-then-arrived-from c = kept_short _ _ _ _ (omega arith)

pub returns : goal.returns
returns c = kept_rest _ _ _ _ _ _ (omega arith) (omega arith) (omega arith)
