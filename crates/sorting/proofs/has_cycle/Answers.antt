-- An event is left out of the queue exactly if there is a cycle.
use Rattle.sorting.proofs.Cycle.{left_out}
use Rattle.sorting.proofs.has_cycle.Goals as goal

pub returns : goal.returns
returns c = let within = c.args.pairs.now.within in left_out _ _ _ _ c.sort_events.ensures.round within.few within.named
