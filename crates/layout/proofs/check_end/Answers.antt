-- The end of the last body, by the layout.
use Rattle.layout.proofs.Table.{ends_elsewhere, ends_there}
use Rattle.layout.proofs.check_end.Goals as goal

pub returns-then-s-l : goal.returns-then-s-l
returns-then-s-l c = ends_elsewhere _ _ c.requires.layout_of c.if-s-l.true

pub returns : goal.returns
returns c = ends_there _ _ c.requires.layout_of c.if-s-l.false
