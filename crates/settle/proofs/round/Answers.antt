-- Rests on `rounded`: what a search and the moves after it come to.
use Rattle.settle.proofs.Rounds.{rounded}
use Rattle.settle.proofs.round.Goals as goal

pub returns-clause-rounded : goal.returns-clause-rounded
returns-clause-rounded c =
    rounded c.search-tail.ensures c.advance.ensures.advanced
