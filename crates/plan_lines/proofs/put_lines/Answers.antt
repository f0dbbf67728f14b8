-- One row has the least opening counts of the places, the other what is missing, and the done set is that of the first short one.
use Rattle.std.proofs.Common.{arith}
use Rattle.text.specs.Output.{◌then◌}
use Rattle.plan_lines.proofs.Judging.{least_row, small, told, few_places, lines_are}
use Rattle.plan_lines.proofs.put_lines.Goals as goal

pub sum_up-totals-requires : goal.sum_up-totals-requires
sum_up-totals-requires c = (
  small _ c.requires.faultless _ _ _ _ c.count_all-first.ensures.0 c.above_openings.ensures _ c.places.ensures,
  omega (arith, c.above_openings.ensures.size, c.places.ensures, c.requires.faultless.laid.limited.places),
)

pub put_counts-requires : goal.put_counts-requires
put_counts-requires c =
    let pre = c.requires in
    let all = told _ pre.faultless _ _ _ _ c.count_all-first.ensures.0 c.above_openings.ensures _ c.places.ensures c.sum_up-totals.result c.sum_up-totals.ensures in
    record {
      faultless = pre.faultless;
      predecessors = pre.predecessors;
      least_row = least_row _ pre.faultless _ _ c.count_all-first.ensures.0;
      short_value = all.short;
      total_value = all.total;
      fits = pre.fits;
    }

pub put_verdict-requires : goal.put_verdict-requires
put_verdict-requires c =
    let pre = c.requires in
    let all = told _ pre.faultless _ _ _ _ c.count_all-first.ensures.0 c.above_openings.ensures _ c.places.ensures c.sum_up-totals.result c.sum_up-totals.ensures in
    let text = c.put_counts.ensures in
    record {
      v_bound = few_places _ pre.faultless c.sum_up-totals.result all;
      n_le_most_events = (omega (arith, c.events.ensures, pre.faultless.laid.limited.events), omega (arith, text.written.put.size, text.room, pre.fits));
    }

pub returns : goal.returns
returns c =
    let pre = c.requires in
    let all = told _ pre.faultless _ _ _ _ c.count_all-first.ensures.0 c.above_openings.ensures _ c.places.ensures c.sum_up-totals.result c.sum_up-totals.ensures in
    rw (lines_are _ pre.faultless _ _ _ c.sum_up-totals.result.verdict _ c.events.ensures c.unwrap_or-done.ensures c.count_all-first.ensures.1 all.verdict)
    (c.put_counts.ensures.written then c.put_verdict.ensures)
