-- The test is the definition.
use Rattle.layout.proofs.Table.{short_is}
use Rattle.layout.proofs.too_short.Goals as goal

pub returns : goal.returns
returns c = short_is c.args.s.now
