-- Rests on what exchanging some does (`Exchanges`): v may give back what it feeds, and w, which then lacks it, may draw it from u.
use Rattle.std.proofs.Common.{arith}
use Rattle.tokenflow.specs.Flowing.{may_give_back}
use Rattle.exchange.proofs.Exchanges.{may, exchanged_some}
use Rattle.exchange.proofs.exchange.Goals as goal

pub give_back-requires : goal.give_back-requires
give_back-requires c = may_give_back c.requires.holds (search) (search) (search) (omega arith)

pub draw-requires : goal.draw-requires
draw-requires c = may c.requires.holds (search) (search) (search) c.give_back.ensures.exact c.give_back.ensures.drawn (omega arith)

pub returns-then-k-gt0 : goal.returns-then-k-gt0
returns-then-k-gt0 c =
    let g = c.give_back.ensures in
    exchanged_some c.requires.holds (search) (search) (search) g.exact g.drawn c.draw.ensures (search) (λ none. omega arith) (omega arith)
