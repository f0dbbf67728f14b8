use Rattle.std.proofs.Common.{arith, ◌∙◌}
use Rattle.flow_sums.proofs.Shares.{shares_in}
use Rattle.flow_sums.proofs.add_shares.Goals as goal

pub returns : goal.returns
returns c = c.total.ensures ∙ shares_in _ _ _ _ (omega arith) c.requires.events_in_bounds
