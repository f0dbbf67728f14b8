-- The marks say the reason of each pair (`is-reason`).
use Rattle.std.proofs.Common.{◌<◌, arith, ◌∙◌, rules, length, length-set, refl}
use Rattle.sheet.specs.Table.{pairs_of}
use Rattle.reasons.proofs.Laws.{ends_few}
use Rattle.reasons.proofs.Rows.{reason_marked}
use Rattle.reasons.proofs.Giving.{so_far_start, so_far_more, so_far_few, so_far_all}
use Rattle.reasons.proofs.give_reasons.Goals as goal

pub loop-i-init : goal.loop-i-init
loop-i-init c = (search rules, c.requires.most_pairs_in_bounds, so_far_start _ _ _ 2048 refl)

pub keep-requires-clause-named : goal.keep-requires-clause-named
keep-requires-clause-named c other =
    let few = c.requires.laid.limited.events in
    let is-reason = c.reason_of-reason.ensures ∙ reason_marked _ _ _ c.loop-i.invariant.2.marked few _ _ _ c.events.ensures c.earlier-a.ensures c.later-b.ensures in
    ends_few _ _ _ _ _ few c.earlier-a.ensures c.later-b.ensures is-reason other

pub keep-requires-clause-room : goal.keep-requires-clause-room
keep-requires-clause-room c =
    omega (arith, so_far_few _ _ _ _ _ _ c.loop-i.invariant.2, c.loop-i-test.true, c.requires.laid.limited.pairs)

pub loop-i-preserved : goal.loop-i-preserved
loop-i-preserved c =
    let so_far = c.loop-i.invariant in
    let few = c.requires.laid.limited.events in
    let is-reason = c.reason_of-reason.ensures ∙ reason_marked _ _ _ so_far.2.marked few _ _ _ c.events.ensures c.earlier-a.ensures c.later-b.ensures in
    let within : c.loop-i.i < length c.loop-i.reasons = omega (arith, c.loop-i-test.true, so_far.1, c.requires.laid.limited.pairs) in (
      search rules,
      rw length-set so_far.1,
      rw c.byte.ensures (so_far_more _ _ _ _ _ _ _ _ _ _ _ so_far.2 within c.earlier-a.ensures c.later-b.ensures is-reason c.keep.ensures),
    )

pub returns : goal.returns
returns c =
    let so_far = c.loop-i.invariant in
    let all = so_far_all _ _ _ _ _ _ (pairs_of c.args.sheet.now.bytes.now) so_far.2 (omega arith) in record { filled = all.written; kept = record { count = all.counted; holds = all.holds } }
