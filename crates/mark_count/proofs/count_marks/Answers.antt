use Rattle.std.proofs.Common.{arith}
use Rattle.mark_count.proofs.Words.{start, more, few_ones, most, done}
use Rattle.mark_count.proofs.count_marks.Goals as goal

pub loop-word-init : goal.loop-word-init
loop-word-init c = start _ _

pub overflow_add-count : goal.overflow_add-count
overflow_add-count c =
    omega (arith, most _ _ _ _ c.loop-word.invariant, c.loop-word.invariant.words, few_ones c.args.rows.now c.args.i (λ q. omega (arith, c.type_inv.rows q)) c.loop-word.word-index (omega (arith, c.loop-word-test.true)))

pub loop-word-preserved : goal.loop-word-preserved
loop-word-preserved c = more _ _ (λ q. omega (arith, c.type_inv.rows q)) _ (omega (arith, c.loop-word-test.true)) _ c.loop-word.invariant

pub returns : goal.returns
returns c = done _ _ _ _ (omega (arith, c.loop-word-test.false)) c.loop-word.invariant
