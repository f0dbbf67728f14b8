-- Rests on `Totals`: an iterator's sum of the first n shares is that of the clause, and at most 1,000 for each.
use Rattle.std.proofs.Common.{arith}
use Rattle.std.proofs.Math.ListN.{take}
use Rattle.std.proofs.lemmas.Iterator.{YieldsList-from_slice}
use Rattle.std.proofs.lemmas.Iterator.Consumers.{sum_from_yields_List, fits_from_yields_list}
use Rattle.least.proofs.Totals.{sum_taken, small_total}
use Rattle.least.proofs.total.Goals as goal

pub sum-requires-clause-fits : goal.sum-requires-clause-fits
sum-requires-clause-fits c =
    let share = c.args.flow.now.share.now in
    fits_from_yields_list c.iter.result _ (YieldsList-from_slice (take c.args.n share) cc) (omega (arith, sum_taken share c.args.n, small_total share _ c.requires.small))

pub returns : goal.returns
returns c =
    let share = c.args.flow.now.share.now in
    omega (arith, sum_from_yields_List c.iter.result _ c.sum.ensures.ran (YieldsList-from_slice (take c.args.n share) cc), sum_taken share c.args.n)
