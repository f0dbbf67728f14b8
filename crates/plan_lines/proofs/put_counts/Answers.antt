-- The lines are put one after another, and tell the counts of the sheet, by `counts_are`.
use Rattle.std.proofs.Common.{arith}
use Rattle.sheet.specs.Items.{plan_of}
use Rattle.text.specs.Output.{◌then◌}
use Rattle.plan_lines.proofs.Judging.{order_in, counts_are}
use Rattle.plan_lines.proofs.put_counts.Goals as goal

pub free_count-free-requires : goal.free_count-free-requires
free_count-free-requires c =
    let order = order_in c.args.sheet.now.bytes.now c.requires.faultless c.args.pred.now c.requires.predecessors in
    record {
      n_le_most_events = omega (arith, c.events.ensures, c.requires.faultless.laid.limited.events);
      some_order = (plan_of c.args.sheet.now.bytes.now, rw c.events.ensures order);
    }

pub returns-clause-written : goal.returns-clause-written
returns-clause-written c =
    let pre = c.requires in
    let order = order_in c.args.sheet.now.bytes.now pre.faultless c.args.pred.now pre.predecessors in
    let counted = c.free_count-free.ensures (plan_of c.args.sheet.now.bytes.now) (rw c.events.ensures order) in
    rw (counts_are _ pre.faultless _ _ _ _ _ c.events-2.ensures c.pairs.ensures counted pre.short_value pre.total_value)
    (c.put_plan.ensures.written then c.put_places.ensures.written then c.put_totals.ensures.written)
