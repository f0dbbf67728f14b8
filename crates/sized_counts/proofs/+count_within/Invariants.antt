-- `sized_counts::count_within` meets its contract: there is room for four times as many events at each call, and no plan has more than 256.
use Rattle.std.proofs.Common.{◌-◌}
use Rattle.sized_counts.proofs.+count_within.Given as goal

abbrev pub decreases-count_within : goal.decreases-count_within
decreases-count_within l = 256 - l.most
