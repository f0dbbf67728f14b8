use Rattle.std.proofs.Common.{arith, get_or, refl, rules}
use Rattle.sorting.proofs.Listing.{listed_more}
use Rattle.sorting.proofs.Lists.{waits_few}
use Rattle.sorting.proofs.list_pairs.Goals as goal

pub list_pair-requires-clause-b_bound : goal.list_pair-requires-clause-b_bound
list_pair-requires-clause-b_bound c =
    let within = c.args.pairs.now.within in
    omega (arith, within.most, waits_few _ c.loop-i.invariant.1 (get_or c.args.pairs.now.to.now c.loop-i.i 0) (omega (arith, within.named.later _ c.loop-i-test.true, within.few)))

pub loop-i-preserved : goal.loop-i-preserved
loop-i-preserved c =
    let within = c.args.pairs.now.within in
    (search rules, listed_more _ _ _ _ c.loop-i.invariant.1 _ _ refl refl (omega (arith, within.named.earlier _ c.loop-i-test.true, within.few)) c.list_pair.ensures)
