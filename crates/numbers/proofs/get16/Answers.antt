-- Rests on `number_2`: the lower half, and the higher one times its place value.
use Rattle.std.proofs.Common.{arith}
use Rattle.numbers.specs.Number.{number_2}
use Rattle.numbers.proofs.get16.Goals as goal

pub returns : goal.returns
returns c = omega (arith, number_2 c.args.s.now c.args.at)
