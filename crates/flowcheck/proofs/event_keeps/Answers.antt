-- The label names a transition, what it takes and gives is read, and the sums at the event are small enough to be added to.
use Rattle.std.proofs.Common.{arith, rules}
use Rattle.flowcheck.proofs.Told.{kept_told}
use Rattle.flowcheck.proofs.event_keeps.Goals as goal

pub overflow_add-arrived : goal.overflow_add-arrived
overflow_add-arrived c = omega (arith, c.requires.pair_sums.arrive.most c.args.v.0, c.requires.faultless.laid.limited.pairs)

pub takes-requires : goal.takes-requires
takes-requires c = record { laid = c.requires.faultless.laid; known = omega (arith, c.label-t.ensures, c.requires.faultless.labels c.args.v.0 (omega arith)) }

pub gives-requires : goal.gives-requires
gives-requires c = record { laid = c.requires.faultless.laid; known = omega (arith, c.label-t.ensures, c.requires.faultless.labels c.args.v.0 (omega arith)) }

pub keeps-requires : goal.keeps-requires
keeps-requires c =
    let sums = c.requires.pair_sums in
    let v = c.args.v.0 in
    omega (arith, sums.arrive.most v, sums.leave.most v, c.requires.faultless.laid.limited.pairs)

pub returns : goal.returns
returns c = search (rules, kept_told)
