use Rattle.std.proofs.Common.{arith, ◌≡◌, rules}
use Rattle.closure.specs.Carried.{carried_start, all_carried}
use Rattle.closure.proofs.Order.{none_below, all_below}
use Rattle.closure.proofs.close.Goals as goal

pub loop-h-init : goal.loop-h-init
loop-h-init c = (search rules, carried_start _ c.requires.within (λ i l. none_below _ _ c.requires.sorted.arranged i))

pub returns : goal.returns
returns c =
    let within = c.args.pairs.now.within in
    let done = c.loop-h in
    let all : done.h ≡ c.args.pairs.now.events = omega arith in
    all_carried _ within.named within.few done.invariant.1 (rw all (λ i l. all_below _ _ c.requires.sorted.arranged within.named i l))
