use Rattle.std.proofs.Common.{arith, ◌∙◌}
use Rattle.closure.proofs.Along.{event_few, along_start, along_end, along_less, along_more, this, this_few, this_end}
use Rattle.closure.proofs.Order.{to_it, next_below}
use Rattle.closure.proofs.carry_pairs.Goals as goal

pub loop-at-init : goal.loop-at-init
loop-at-init c = along_start c.args.pairs.now _ c.requires.sorted.0 _ c.requires.sorted.1 _ _ c.requires.carried_to

pub carry-requires : goal.carry-requires
carry-requires c = (
  event_few c.args.pairs.now _ c.requires.sorted.0 _ c.requires.sorted.1,
  this_end c.args.pairs.now _ c.requires.sorted.0 _ c.requires.sorted.1 _ _ _ c.loop-at.invariant (omega (arith, c.loop-at-test.true)),
)

pub loop-at-smaller : goal.loop-at-smaller
loop-at-smaller c = along_less c.args.pairs.now _ c.requires.sorted.0 _ c.requires.sorted.1 _ _ _ c.loop-at.invariant (omega (arith, c.loop-at-test.true))

pub loop-at-preserved : goal.loop-at-preserved
loop-at-preserved c =
    let sorted = c.requires.sorted.0 in
    let place = c.requires.sorted.1 in
    let own = this c.args.pairs.now _ sorted _ place _ _ _ c.loop-at.invariant (omega (arith, c.loop-at-test.true)) in
    along_more c.args.pairs.now _ sorted _ place _ _ _ c.loop-at.invariant (omega (arith, c.loop-at-test.true))
    (λ i l e. to_it _ _ sorted.arranged _ place i l (e ∙ own.1)) (rw own.1 c.carry.ensures)

pub returns : goal.returns
returns c =
    let sorted = c.requires.sorted.0 in
    along_end c.args.pairs.now _ sorted _ c.requires.sorted.1 _ _ _ c.loop-at.invariant _ (omega (arith, c.loop-at-test.false))
    (next_below _ _ sorted.arranged _ c.requires.sorted.1)

pub bounds-pairs-i : goal.bounds-pairs-i
bounds-pairs-i c =
    omega (arith, this_few c.args.pairs.now _ c.requires.sorted.0 _ c.requires.sorted.1 _ _ _ c.loop-at.invariant (omega (arith, c.loop-at-test.true)))
