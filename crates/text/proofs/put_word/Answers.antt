use Rattle.std.proofs.Common.{arith, rules}
use Rattle.text.specs.Put.{word_start, word_more, word_done}
use Rattle.text.proofs.put_word.Goals as goal

pub loop-i-init : goal.loop-i-init
loop-i-init c = (search rules, search rules, word_start _ _ c.args.word.now (omega arith))

pub loop-i-preserved : goal.loop-i-preserved
loop-i-preserved c = (search rules, search rules, word_more _ _ _ _ _ (omega arith) (omega arith) c.loop-i.invariant.2)

pub returns : goal.returns
returns c = word_done _ _ _ _ _ (omega arith) (omega arith) c.loop-i.invariant.2
