-- All pairs of at most 256 events fit, and those that aren't ordered are free, in every plan that has the rows.
use Rattle.std.proofs.Common.{arith}
use Rattle.free_pairs.proofs.Ordered.{all_pairs}
use Rattle.free_pairs.proofs.free_count.Goals as goal

pub returns : goal.returns
returns c = λ P order. omega (arith, c.count_ordered-ordered.ensures, all_pairs P _ _ order c.requires.n_le_most_events)
