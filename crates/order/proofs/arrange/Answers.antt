-- An event is left out of the queue exactly if there is a cycle; else the events are arranged, and rows are filled by that.
use Rattle.std.proofs.Common.{arith, Bool, sym, ap, ◌∙◌, lt-ltb, le-ltb}
use Rattle.sheet.specs.Told.{tell, plain}
use Rattle.sorting.proofs.Arranged.{all_sorted}
use Rattle.sorting.proofs.Cycle.{left_out}
use Rattle.order.proofs.arrange.Goals as goal

pub returns-then-sort_events-pairs-clause-fault : goal.returns-then-sort_events-pairs-clause-fault
returns-then-sort_events-pairs-clause-fault c =
    let within = c.args.pairs.now.within in
    let cycle = sym (lt-ltb c.sort_events.result c.args.pairs.now.events (omega arith)) ∙ left_out _ _ _ _ c.sort_events.ensures.round within.few within.named in
    ap (λ (b : Bool). tell 11 (plain b)) cycle

pub close-requires-clause-sorted : goal.close-requires-clause-sorted
close-requires-clause-sorted c = all_sorted c.sort_events.ensures (omega arith)

pub returns-clause-fault : goal.returns-clause-fault
returns-clause-fault c =
    let within = c.args.pairs.now.within in
    let cycle = sym (le-ltb c.sort_events.result c.args.pairs.now.events (omega arith)) ∙ left_out _ _ _ _ c.sort_events.ensures.round within.few within.named in
    ap (λ (b : Bool). tell 11 (plain b)) cycle
