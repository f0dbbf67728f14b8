use Rattle.std.proofs.Common.{rules}
use Rattle.fold.proofs.Walks.{events_apart, events_meet, walk_start, walk_done, walk_step, walk_fewer, walk_link, walk_named, walk_room, walk_more}
use Rattle.fold.proofs.trace.Goals as goal

pub loop-u-init : goal.loop-u-init
loop-u-init c = (search rules, walk_start _ _ _ _ _ _ _)

pub step_back-v-requires : goal.step_back-v-requires
step_back-v-requires c = record { u_lt_most_events = search rules; may_step = walk_step c.loop-u.invariant.1 (events_apart c.ne.ensures c.loop-u-test.true) c.requires.may_trace }

pub pair_number-i-requires : goal.pair_number-i-requires
pair_number-i-requires c = record { a_lt_most_events = search rules; may_find = walk_link c.loop-u.invariant.1 (events_apart c.ne.ensures c.loop-u-test.true) c.requires.may_trace c.step_back-v.ensures.stepped_back }

pub carry-requires : goal.carry-requires
carry-requires c =
    let walk = c.loop-u.invariant.1 in
    let apart = (events_apart c.ne.ensures c.loop-u-test.true) in
    let back = c.step_back-v.ensures.stepped_back in
    let found = c.pair_number-i.ensures in record {
      i_in_bounds = walk_named walk apart c.requires.may_trace back found;
      k_bound = walk_room walk apart c.requires.may_trace back found c.requires.spacious;
    }

pub loop-u-smaller : goal.loop-u-smaller
loop-u-smaller c = walk_fewer c.loop-u.invariant.1 (events_apart c.ne.ensures c.loop-u-test.true) c.requires.may_trace c.step_back-v.ensures.stepped_back

pub loop-u-preserved : goal.loop-u-preserved
loop-u-preserved c =
    let found = c.pair_number-i.ensures in (
      search rules,
      walk_more c.loop-u.invariant.1 (events_apart c.ne.ensures c.loop-u-test.true) c.requires.may_trace c.step_back-v.ensures.stepped_back found _ c.carry.ensures,
    )

pub returns : goal.returns
returns c = walk_done c.loop-u.invariant.1 (events_meet c.ne.ensures c.loop-u-test.false)
