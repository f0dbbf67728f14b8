use Rattle.std.proofs.Common.{arith, rules}
use Rattle.last_mark.proofs.Scan.{told_only}
use Rattle.last_mark.proofs.last_only.Goals as goal

pub returns : goal.returns
returns c = told_only c.last.ensures (λ q. omega (arith, c.type_inv.b q)) (λ x y z m. search rules)
