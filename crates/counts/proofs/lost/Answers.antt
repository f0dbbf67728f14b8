use Rattle.std.proofs.Common.{◌≤◌, arith, rules}
use Rattle.counts.specs.Ends.{lost_start, lost_more, lost_all}
use Rattle.counts.proofs.Weights.{named, takes_most}
use Rattle.counts.proofs.lost.Goals as goal

pub loop-v-init : goal.loop-v-init
loop-v-init c = (search rules, search (rules, lost_start), search rules)

pub takes-sum-requires : goal.takes-sum-requires
takes-sum-requires c = search (rules, named)

pub overflow_add-sum : goal.overflow_add-sum
overflow_add-sum c =
    let weight : c.takes-sum.result ≤ 1000 =
    search (rules, takes_most) in
    omega (arith, weight)

pub loop-v-preserved : goal.loop-v-preserved
loop-v-preserved c =
    let weight : c.takes-sum.result ≤ 1000 =
    search (rules, takes_most) in
    (search rules, search (rules, lost_more), omega (arith, weight))

pub returns : goal.returns
returns c = search (rules, lost_all)
