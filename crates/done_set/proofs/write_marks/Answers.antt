use Rattle.std.proofs.Common.{arith, ◌≡◌, rules}
use Rattle.finite.specs.Filled.{filled_none, filled_more}
use Rattle.done_set.specs.Mark.{mark_in}
use Rattle.done_set.proofs.write_marks.Goals as goal

pub loop-v-init : goal.loop-v-init
loop-v-init c = (search rules, filled_none _ _ _ (omega arith))

pub loop-v-preserved : goal.loop-v-preserved
loop-v-preserved c = (omega arith, rw c.done_mark.ensures (filled_more (mark_in _ _) _ _ _ (omega arith) c.loop-v.invariant.1))

pub returns : goal.returns
returns c =
    let all : c.loop-v.v ≡ c.args.n = omega arith in
    rw all at c.loop-v.invariant.1
