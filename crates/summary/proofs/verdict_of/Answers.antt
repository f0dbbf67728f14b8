use Rattle.std.proofs.Common.{arith, ◌≡◌, subst, length}
use Rattle.summary.specs.Summary.{count_at, VerdictOf}
use Rattle.summary.proofs.Verdicts.{none_yet}
use Rattle.summary.proofs.verdict_of.Goals as goal

pub loop-p-init : goal.loop-p-init
loop-p-init c = (omega arith, none_yet (count_at c.args.counts.now) _ (omega arith))

pub loop-p-preserved : goal.loop-p-preserved
loop-p-preserved c = (omega arith, c.keep_first-v.ensures (count_at c.args.counts.now) (omega arith) c.loop-p.invariant.1)

pub returns : goal.returns
returns c =
    let all : c.loop-p.p ≡ length c.args.counts.now = omega arith in
    subst (λ k. VerdictOf (count_at c.args.counts.now) k c.loop-p.v) all c.loop-p.invariant.1
