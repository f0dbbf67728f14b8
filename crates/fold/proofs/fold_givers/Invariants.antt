-- The invariant: in every plan that has the rows, what the givers below u give is folded.
use Rattle.std.proofs.Common.{◌*◌, ◌-◌, ◌≤◌}
use Rattle.ids.specs.Limits.{most_events}
use Rattle.fold.specs.Feeding.{Turned}
use Rattle.fold.proofs.fold_givers.Given as goal

abbrev pub invariant-loop-u : goal.invariant-loop-u
invariant-loop-u l =
    (l.u ≤ l.n) × Turned l.n l.succ l.skeleton.skel l.skeleton.index l.flow.amount.now l.flow.fed.now 0 l.initial.row (l.u * most_events) l.row

abbrev pub decreases-loop-u : goal.decreases-loop-u
decreases-loop-u l = l.n - l.u
