use Rattle.std.proofs.Common.{◌<◌, arith, rules}
use Rattle.search.specs.Row.{in_below}
use Rattle.search.specs.Trail.{◌!◌}
use Rattle.finite.specs.Queue.{queued_le}
use Rattle.search.proofs.Queue.{fewer_left}
use Rattle.search.proofs.Rounds.{all_in, unlisted, visit_start, visit_more}
use Rattle.search.proofs.visit.Goals as goal

pub offset_bounds-trail-head : goal.offset_bounds-trail-head
offset_bounds-trail-head c = omega (arith, queued_le c.requires.listed)

pub bounds-trail-head : goal.bounds-trail-head
bounds-trail-head c = omega (arith, queued_le c.requires.listed)

pub loop-x-init : goal.loop-x-init
loop-x-init c = search (rules, visit_start)

pub last_only-requires : goal.last_only-requires
last_only-requires c =
    let taker : c.args.trail.now.queue ! c.args.head < 256 =
    let a = c.args in in_below a.takers.now (a.trail.now.queue ! a.head) (c.requires.listed.listed a.head c.requires.head_lt_tail) in
    let below = taker in
    search rules

pub returns : goal.returns
returns c = record { visiting = search rules; all_in = all_in c.in_default.ensures }

pub loop-x-smaller : goal.loop-x-smaller
loop-x-smaller c = fewer_left c.meet.ensures (unlisted c.in-Some.ensures)

pub loop-x-preserved : goal.loop-x-preserved
loop-x-preserved c =
    rw c.follow-end.ensures.via_kept (visit_more c.requires.head_lt_tail c.loop-x.invariant c.in-Some.ensures c.meet.ensures (search) (search))
