-- The invariant: in every plan that has the rows, what u gives to the takers below w is folded too.
use Rattle.std.proofs.Common.{◌*◌, ◌-◌, ◌≤◌}
use Rattle.ids.specs.Limits.{most_events}
use Rattle.fold.specs.Feeding.{Turned}
use Rattle.fold.specs.FoldedTo.{turn_of}
use Rattle.fold.proofs.fold_giver.Given as goal

abbrev pub invariant-loop-w : goal.invariant-loop-w
invariant-loop-w l =
    (l.w ≤ l.n) × Turned l.n l.succ l.skeleton.skel l.skeleton.index l.flow.amount.now l.flow.fed.now (l.u.0 * most_events) l.initial.row (turn_of l.u.0 l.w) l.row

abbrev pub decreases-loop-w : goal.decreases-loop-w
decreases-loop-w l = l.n - l.w
