use Rattle.std.proofs.Common.{arith, rules, refl}
use Rattle.finite.specs.Queue.{stored}
use Rattle.search.proofs.Rounds.{all_in, room, follow_start, follow_more}
use Rattle.search.proofs.follow.Goals as goal

pub loop-x-init : goal.loop-x-init
loop-x-init c = (search (rules, follow_start), refl)

pub returns : goal.returns
returns c = record { following = search rules; via_kept = search rules; all_in = all_in c.in_default.ensures }

pub list-requires : goal.list-requires
list-requires c = (room c.loop-x.invariant.0.longer.queued c.in-Some.ensures, c.in-Some.ensures.below)

pub offset_bounds-trail-end : goal.offset_bounds-trail-end
offset_bounds-trail-end c = omega (arith, room c.loop-x.invariant.0.longer.queued c.in-Some.ensures)

pub bounds-trail-end : goal.bounds-trail-end
bounds-trail-end c = omega (arith, room c.loop-x.invariant.0.longer.queued c.in-Some.ensures)

pub overflow_add-end : goal.overflow_add-end
overflow_add-end c = omega (arith, room c.loop-x.invariant.0.longer.queued c.in-Some.ensures)

pub loop-x-smaller : goal.loop-x-smaller
loop-x-smaller c = omega (arith, room c.loop-x.invariant.0.longer.queued c.in-Some.ensures)

pub loop-x-preserved : goal.loop-x-preserved
loop-x-preserved c =
    let put = stored _ _ _ (omega (arith, room c.loop-x.invariant.0.longer.queued c.in-Some.ensures)) in
    (follow_more c.loop-x.invariant.0 c.in-Some.ensures (search) put, search rules)
