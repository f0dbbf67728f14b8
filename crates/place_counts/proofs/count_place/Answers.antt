-- The takers' lack at last tells the count that is asked for, and the givers the done set of a short place.
use Rattle.std.proofs.Common.{◌≡◌, ap, refl, ◌∙◌, cond, set}
use Rattle.least.specs.PlaceRows.{flow_unfed}
use Rattle.place_counts.specs.Asked.{asked}
use Rattle.place_counts.specs.First.{done_of}
use Rattle.place_counts.proofs.count_place.Goals as goal
use Rattle.place_counts.proofs.count_place.Goals.{then-least, else-least, then-least-2, else-least-2}

pub returns : goal.returns
returns c =
    let stop : c.if-least.stop ≡ cond c.args.least 0 c.opening-opens.result = elim c.if-least.branch [ then-least w ↦ rw w.if-least.true w.stop-is | else-least w ↦ rw w.if-least.false w.stop-is ] in
    let told : c.if-least-2.row ≡ cond c.args.least c.settle_place-lacks.result c.above-missing.result = elim c.if-least-2.branch [ then-least-2 w ↦ rw w.if-least-2.true w.row-is | else-least-2 w ↦ rw w.if-least-2.false w.row-is ] in
    let is = asked c.args.least _ _ _ _ _ _ _ _ _ _ _ c.opening-opens.ensures stop c.settle_place-lacks.ensures.settled c.above-missing.ensures in
    let judged = is.shown.1 in
    record {
      count = ap (set c.args.row.now c.args.p.0) (told ∙ is.told);
      done = rw c.then_some.ensures (done_of _ _ c.above-missing.result _ judged.count judged.set _ refl);
      rows = (judged.flows.room, flow_unfed _ _ _ _ refl judged.flows);
      same_rows = c.settle_place-lacks.ensures.same_rows;
    }
