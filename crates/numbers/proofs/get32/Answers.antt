-- Rests on `number_4`: the lower half, and the higher one times its place value.
use Rattle.std.proofs.Common.{arith}
use Rattle.numbers.specs.Number.{number_4}
use Rattle.numbers.proofs.get32.Goals as goal

pub returns : goal.returns
returns c = omega (arith, number_4 c.args.s.now c.args.at)
