use Rattle.std.proofs.Common.{arith, ◌∙◌}
use Rattle.finite.specs.Filled.{filled_more}
use Rattle.place_counts.specs.First.{first_more}
use Rattle.place_counts.proofs.count_places.Goals as goal

pub loop-p-preserved : goal.loop-p-preserved
loop-p-preserved c =
    let now = c.loop-p.invariant in
    record {
      in_range = omega arith;
      counted = rw c.count_place-done.ensures.count (filled_more _ _ _ _ (omega (arith, now.counted.size, c.requires.countable.2)) now.counted);
      known = rw c.or-first.ensures (first_more _ _ _ _ now.known c.count_place-done.ensures.done);
      rows = c.count_place-done.ensures.rows;
      same_rows = c.count_place-done.ensures.same_rows ∙ now.same_rows;
    }
