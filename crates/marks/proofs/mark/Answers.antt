-- One word is united with a power of two, which adds one mark.
use Rattle.marks.proofs.Rows.{mark_added}
use Rattle.marks.proofs.mark.Goals as goal

pub returns : goal.returns
returns c = mark_added _ _ _ c.requires.has_row c.requires.j_lt_most_events
