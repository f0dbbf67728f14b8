-- The test reads the bit that the definition names.
use Rattle.std.proofs.Common.{rules}
use Rattle.marks.specs.Marks.{bit, marked}
use Rattle.marks.proofs.is_marked.Goals as goal

pub returns : goal.returns
unfolding marked bit
returns c = search rules
