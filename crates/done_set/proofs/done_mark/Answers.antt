use Rattle.std.proofs.Common.{arith}
use Rattle.done_set.proofs.Marking.{mark_none, mark_some}
use Rattle.done_set.proofs.done_mark.Goals as goal
use Rattle.done_set.proofs.done_mark.Goals.{then-m-gt0, else-m-gt0}

pub returns : goal.returns
returns c = elim c.if-m-gt0.branch [
  | then-m-gt0 w ↦ mark_some _ _ _ w.if-m-gt0.true c.requires w.is_marked.ensures c.from.ensures w.from-is
  | else-m-gt0 w ↦ mark_none _ _ _ (omega (arith, w.if-m-gt0.false)) c.from.ensures w.from-is
]
