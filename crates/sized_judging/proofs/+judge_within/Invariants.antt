-- `sized_judging::judge_within` meets its contract: there is room for four times as many events at each call, and no plan has more than 256.
use Rattle.std.proofs.Common.{◌-◌}
use Rattle.sized_judging.proofs.+judge_within.Given as goal

abbrev pub decreases-judge_within : goal.decreases-judge_within
decreases-judge_within l = 256 - l.most
