-- `verdict_number` rests on what the match tells of the verdict, with whose number the code's sum is compared.
use Rattle.std.proofs.Common.{arith, ap}
use Rattle.summary.specs.Summary.{verdict_number}
use Rattle.summary.proofs.verdict_number.Goals as goal

pub overflow_cast-result : goal.overflow_cast-result
overflow_cast-result c = omega (arith, ap verdict_number c.in-Short.is)

pub overflow_add-result : goal.overflow_add-result
overflow_add-result c = omega (arith, ap verdict_number c.in-Short.is)

pub returns-in-Short : goal.returns-in-Short
returns-in-Short c = omega (arith, ap verdict_number c.in-Short.is)
