use Rattle.std.proofs.Common.{arith}
use Rattle.settle.proofs.Rounds.{sum_first}
use Rattle.settle.proofs.is_covered.Goals as goal

pub returns : goal.returns
returns c = let first = sum_first c.args.share.now c.args.n (omega arith) in cc
