use Rattle.std.proofs.Common.{rules}
use Rattle.last_mark.proofs.Scan.{told_both}
use Rattle.last_mark.proofs.last_common.Goals as goal

pub returns : goal.returns
returns c = told_both c.last.ensures (λ x y z m. search rules)
