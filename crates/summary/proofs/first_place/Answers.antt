-- `first_place` rests on what the pattern tells of the verdict, whose place is small.
use Rattle.std.proofs.Common.{arith, ap}
use Rattle.summary.specs.Summary.{verdict_place}
use Rattle.summary.proofs.first_place.Goals as goal

pub overflow_cast-result : goal.overflow_cast-result
overflow_cast-result c = omega (arith, ap verdict_place c.in-Short.is)

pub returns-in-Short : goal.returns-in-Short
returns-in-Short c = omega (arith, ap verdict_place c.in-Short.is)
