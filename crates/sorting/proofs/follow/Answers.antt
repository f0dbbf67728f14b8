use Rattle.std.proofs.Common.{arith}
use Rattle.sorting.proofs.Lists.{queued_few, walking_start, walking_end, walking_pair, walking_less, walking_needs, walking_more}
use Rattle.sorting.proofs.follow.Goals as goal

pub bounds-queue-h : goal.bounds-queue-h
bounds-queue-h c = omega (arith, c.requires.round.1, queued_few _ _ _ _ _ c.requires.round.0, c.args.pairs.now.within.few)

pub loop-at-init : goal.loop-at-init
loop-at-init c = let within = c.args.pairs.now.within in walking_start _ _ _ _ c.requires.lists within.few within.named _ _ c.requires.round.0 c.requires.round.1

pub bounds-pairs-i : goal.bounds-pairs-i
bounds-pairs-i c =
    let within = c.args.pairs.now.within in
    omega (arith, walking_pair _ _ _ _ c.requires.lists within.few within.named _ _ _ _ c.loop-at.invariant (omega (arith, c.loop-at-test.true)), within.most)

pub lower-end-requires : goal.lower-end-requires
lower-end-requires c =
    let within = c.args.pairs.now.within in
    walking_needs _ _ _ _ c.requires.lists within.few within.named _ _ _ _ c.loop-at.invariant (omega (arith, c.loop-at-test.true))

pub offset_bounds-lists-i : goal.offset_bounds-lists-i
offset_bounds-lists-i c =
    let within = c.args.pairs.now.within in
    omega (arith, walking_pair _ _ _ _ c.requires.lists within.few within.named _ _ _ _ c.loop-at.invariant (omega (arith, c.loop-at-test.true)), within.most)

pub bounds-lists-i : goal.bounds-lists-i
bounds-lists-i c =
    let within = c.args.pairs.now.within in
    omega (arith, walking_pair _ _ _ _ c.requires.lists within.few within.named _ _ _ _ c.loop-at.invariant (omega (arith, c.loop-at-test.true)), within.most)

pub loop-at-smaller : goal.loop-at-smaller
loop-at-smaller c =
    let within = c.args.pairs.now.within in
    walking_less _ _ _ _ c.requires.lists within.few within.named _ _ _ _ c.loop-at.invariant (omega (arith, c.loop-at-test.true))

pub loop-at-preserved : goal.loop-at-preserved
loop-at-preserved c =
    let within = c.args.pairs.now.within in
    walking_more _ _ _ _ c.requires.lists within.few within.named _ _ _ _ c.loop-at.invariant (omega (arith, c.loop-at-test.true)) c.lower-end.ensures

pub returns : goal.returns
returns c =
    let within = c.args.pairs.now.within in
    walking_end _ _ _ _ c.requires.lists within.few within.named _ _ _ _ c.loop-at.invariant (omega (arith, c.loop-at-test.false))
