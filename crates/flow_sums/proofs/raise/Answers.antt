-- What is stored is the sum, and x is a number of 32 bits.
use Rattle.std.proofs.Common.{arith}
use Rattle.flow_sums.proofs.Adding.{sum_raised}
use Rattle.flow_sums.proofs.raise.Goals as goal

pub returns : goal.returns
returns c = sum_raised _ _ _ _ (omega arith) (omega arith) (omega arith)
