-- The start of an entry is its first number.
use Rattle.std.proofs.Common.{arith, ◌∙◌}
use Rattle.layout.proofs.Table.{start_is}
use Rattle.layout.proofs.entry_start.Goals as goal

pub returns : goal.returns
returns c = (c.get32.ensures.0 ∙ start_is _ _ _ (omega arith), omega arith)
