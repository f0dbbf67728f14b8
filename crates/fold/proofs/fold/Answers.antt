-- The row is cleared, and then every giver has its turn.
use Rattle.std.proofs.Common.{arith, length, rules}
use Rattle.fold.proofs.Cleared.{cleared}
use Rattle.fold.proofs.fold.Goals as goal

pub fold_givers-requires : goal.fold_givers-requires
fold_givers-requires c =
    let g = c.requires in record {
      n_le_most_events = omega (arith, g.1.events, g.1.way.few);
      may_fold = (g.0, g.1, omega (arith, g.2));
      zeros = cleared (length c.args.row.now) _ (search rules);
    }

pub returns : goal.returns
returns c = λ P g m. c.fold_givers.ensures P g (omega (arith, m))
