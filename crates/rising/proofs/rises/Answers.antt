use Rattle.std.proofs.Common.{◌<◌, arith, length, length-append, take}
use Rattle.std.proofs.lemmas.List.{get_or-take}
use Rattle.std.proofs.lemmas.Slice.Zip.{zip_turn}
use Rattle.rising.proofs.Steps.{rising_start, rising_more}
use Rattle.rising.proofs.rises.Goals as goal

pub loop-a-init : goal.loop-a-init
loop-a-init c = rising_start _ _

pub loop-a-preserved : goal.loop-a-preserved
loop-a-preserved c =
    let k = length c.loop-a.yielded in
    let turn = zip_turn (take c.args.count c.args.from.now) (take c.args.count c.args.to.now) c.loop-a.yielded c.into_iter-a-iterator.result c.loop-a.a-iterator c.next.new.self _ (cc) (cc) c.loop-a.yielded_by _ c.in-Some.is c.next.ensures.steps in
    let below : k < c.args.count = omega (arith, turn.0, c.requires) in
    rw (turn.2 0, turn.3 0, get_or-take c.args.count c.args.from.now k 0 below, get_or-take c.args.count c.args.to.now k 0 below, length-append) (rising_more _ _ _ _ c.loop-a.invariant)
