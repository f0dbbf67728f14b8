-- Above the highest bit are the leading zeros, of which a word above 0 has at most 31.
use Rattle.std.proofs.Common.{arith}
use lib.Count.{leading_top}
use Rattle.marks.proofs.Bits.{top_bit}
use Rattle.last_mark.proofs.top.Goals as goal

pub overflow_sub-result : goal.overflow_sub-result
overflow_sub-result c = omega (arith, (leading_top 32 c.args.x c.requires (omega arith)).1)

pub returns : goal.returns
returns c = top_bit c.args.x c.requires (omega arith)
