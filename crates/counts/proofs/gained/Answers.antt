use Rattle.std.proofs.Common.{◌≤◌, arith, rules}
use Rattle.counts.specs.Ends.{gained_start, gained_more, gained_all}
use Rattle.counts.proofs.Weights.{opening_most, named, gives_most}
use Rattle.counts.proofs.gained.Goals as goal

pub loop-v-init : goal.loop-v-init
loop-v-init c = (search rules, search (rules, gained_start), search (rules, opening_most))

pub gives-sum-requires : goal.gives-sum-requires
gives-sum-requires c = search (rules, named)

pub overflow_add-sum : goal.overflow_add-sum
overflow_add-sum c =
    let weight : c.gives-sum.result ≤ 1000 =
    search (rules, gives_most) in
    omega (arith, weight)

pub loop-v-preserved : goal.loop-v-preserved
loop-v-preserved c =
    let weight : c.gives-sum.result ≤ 1000 =
    search (rules, gives_most) in
    (search rules, search (rules, gained_more), omega (arith, weight))

pub returns : goal.returns
returns c = search (rules, gained_all)
