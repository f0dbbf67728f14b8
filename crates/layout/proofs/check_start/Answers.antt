-- One comparison after the other.
use Rattle.std.proofs.Common.{arith, rules}
use Rattle.layout.proofs.Starts.{is_late, is_early, is_right}
use Rattle.layout.proofs.check_start.Goals as goal

pub returns-then-at-due : goal.returns-then-at-due
returns-then-at-due c = is_late _ _ (search rules)

pub returns-then-at-due-2 : goal.returns-then-at-due-2
returns-then-at-due-2 c = is_early _ _ (search rules)

pub returns : goal.returns
returns c = is_right _ _ (omega arith)
