-- The count of an entry is its second number.
use Rattle.std.proofs.Common.{arith, ◌∙◌}
use Rattle.layout.proofs.Table.{count_is}
use Rattle.layout.proofs.entry_count.Goals as goal

pub returns : goal.returns
returns c = c.get32.ensures.0 ∙ count_is _ _ _ (omega arith)
