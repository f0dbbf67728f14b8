use Rattle.std.proofs.Common.{arith, rules}
use Rattle.search.proofs.Gain.{zeros_empty}
use Rattle.finite.specs.Queue.{queued_le}
use Rattle.search.proofs.Rounds.{search_start, search_more, search_done}
use Rattle.search.proofs.search.Goals as goal

pub seed-tail-requires : goal.seed-tail-requires
seed-tail-requires c = search (rules, zeros_empty)

pub loop-head-init : goal.loop-head-init
loop-head-init c = search_start (search) (zeros_empty 8)

pub loop-head-smaller : goal.loop-head-smaller
loop-head-smaller c = omega (arith, queued_le c.loop-head.invariant.queued)

pub loop-head-preserved : goal.loop-head-preserved
loop-head-preserved c = search_more c.requires.narrow c.loop-head-test.true c.loop-head.invariant (search) (search)

pub returns : goal.returns
returns c = search_done c.requires.n_le_most_events c.loop-head-test.false c.loop-head.invariant
