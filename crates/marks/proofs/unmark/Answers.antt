-- One word is met with the complement of a power of two, which removes one mark.
use Rattle.marks.proofs.Rows.{mark_removed}
use Rattle.marks.proofs.unmark.Goals as goal

pub returns : goal.returns
returns c = mark_removed _ _ _ c.requires.has_row c.requires.j_lt_most_events
