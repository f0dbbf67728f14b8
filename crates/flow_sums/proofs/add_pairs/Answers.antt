use Rattle.std.proofs.Common.{◌<◌, not, ap, arith, true≢false, sym, rules}
use Rattle.ids.specs.Limits.{most_events}
use Rattle.flow_sums.proofs.Pairs.{added_start, added_done, within, pair_broken, pair_more}
use Rattle.flow_sums.proofs.add_pairs.Goals as goal

pub loop-i-init : goal.loop-i-init
loop-i-init c = (search rules, added_start _ _ _ _ _ (omega arith) (search rules) (search rules))

pub returns-then-not-may_carry : goal.returns-then-not-may_carry
returns-then-not-may_carry c = record { value = search (rules, pair_broken); pair_sums = λ e. absurd (true≢false (sym e)) }

pub raise-requires : goal.raise-requires
raise-requires c =
    let ends : (c.earlier-a.result.0 < most_events) × (c.later-b.result.0 < most_events) =
    let known = c.requires.faultless in
    within known _ _ c.pairs-i-end.ensures c.loop-i-test.true c.earlier-a.ensures c.later-b.ensures in
    let most = c.loop-i.invariant.1.sums.leave.most in
    omega (arith, ends, most c.earlier-a.result.0, most c.later-b.result.0, c.requires.faultless.laid.limited.pairs)

pub raise-requires-in-loop-i : goal.raise-requires-in-loop-i
raise-requires-in-loop-i c =
    let ends : (c.earlier-a.result.0 < most_events) × (c.later-b.result.0 < most_events) =
    let known = c.requires.faultless in
    within known _ _ c.pairs-i-end.ensures c.loop-i-test.true c.earlier-a.ensures c.later-b.ensures in
    let most = c.loop-i.invariant.1.sums.arrive.most in
    omega (arith, ends, most c.earlier-a.result.0, most c.later-b.result.0, c.requires.faultless.laid.limited.pairs)

pub loop-i-preserved : goal.loop-i-preserved
loop-i-preserved c =
    let known = c.requires.faultless in
    let a = c.earlier-a.ensures in
    let b = c.later-b.ensures in
    let told = pair_more known _ _ c.pairs-i-end.ensures c.loop-i-test.true a b c.requires.order_rows c.args.row.now c.may_carry.ensures in
    (search rules, told (ap not c.if-not-may_carry.false) c.loop-i.invariant.1 c.raise.ensures c.raise-in-loop-i.ensures)

pub returns : goal.returns
returns c = let done = added_done c.loop-i.invariant.1 (omega arith) in record { value = done.0; pair_sums = λ e. done.1 }
