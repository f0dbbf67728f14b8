-- The invariant: in every plan that has the rows the tokens are carried from `cur` on, and `cur` is u or after it. Each step leaves fewer events between.
use Rattle.std.proofs.Common.{◌<◌}
use Rattle.ids.specs.Limits.{most_events}
use Rattle.fold.proofs.Walks.{steps, Walking}
use Rattle.fold.proofs.trace.Given as goal

abbrev pub invariant-loop-u : goal.invariant-loop-u
invariant-loop-u l =
    (l.cur.0 < most_events) × Walking l.succ l.skeleton.skel l.skeleton.index l.initial.row l.row l.u.0 l.cur.0 l.initial.cur.0 l.k

abbrev pub decreases-loop-u : goal.decreases-loop-u
decreases-loop-u l = steps l.succ l.u.0 l.cur.0
