use Rattle.std.proofs.Common.{arith, sym, ap, ◌∙◌, rules}
use Rattle.finite.proofs.First.{first_found, first_done}
use Rattle.finite.specs.Search.{search_start, search_more}
use Rattle.sheet.specs.Chain.{told}
use Rattle.sheet.specs.Faults.{repeated}
use Rattle.sheet.specs.Told.{tell}
use Rattle.order.proofs.Pairs.{few_ends, start, more, repeat_marked}
use Rattle.order.proofs.mark_pairs.Goals as goal

pub loop-i-init : goal.loop-i-init
loop-i-init c = (search rules, search_start _, start _ _ _ _ c.requires.blank)

pub is_marked-requires-clause-has_row : goal.is_marked-requires-clause-has_row
is_marked-requires-clause-has_row c =
    omega (arith, few_ends _ c.requires.laid c.requires.events_named _ c.earlier-a.ensures c.later-b.ensures (omega (arith, c.loop-i-test.true, c.pairs-i-end.ensures)))

pub is_marked-requires-clause-j_lt_most_events : goal.is_marked-requires-clause-j_lt_most_events
is_marked-requires-clause-j_lt_most_events c =
    omega (arith, few_ends _ c.requires.laid c.requires.events_named _ c.earlier-a.ensures c.later-b.ensures (omega (arith, c.loop-i-test.true, c.pairs-i-end.ensures)))

pub returns-then-is_marked-clause-fault : goal.returns-then-is_marked-clause-fault
unfolding repeated
returns-then-is_marked-clause-fault c =
    let within = few_ends _ c.requires.laid c.requires.events_named _ c.earlier-a.ensures c.later-b.ensures (omega (arith, c.loop-i-test.true, c.pairs-i-end.ensures)) in
    -- the mark of the pair says whether it is a repeat
    let repeats = repeat_marked _ _ _ _ _ c.loop-i.invariant.2 _ _ c.earlier-a.ensures c.later-b.ensures within.1 in
    ap (tell 10) (sym (first_found _ _ _ _ c.pairs-i-end.ensures c.loop-i-test.true c.loop-i.invariant.1 (told (c.is_marked.ensures ∙ repeats) c.if-is_marked.true)))

pub mark-requires-clause-has_row : goal.mark-requires-clause-has_row
mark-requires-clause-has_row c =
    omega (arith, few_ends _ c.requires.laid c.requires.events_named _ c.earlier-a.ensures c.later-b.ensures (omega (arith, c.loop-i-test.true, c.pairs-i-end.ensures)))

pub mark-requires-clause-j_lt_most_events : goal.mark-requires-clause-j_lt_most_events
mark-requires-clause-j_lt_most_events c =
    omega (arith, few_ends _ c.requires.laid c.requires.events_named _ c.earlier-a.ensures c.later-b.ensures (omega (arith, c.loop-i-test.true, c.pairs-i-end.ensures)))

pub put_pair-requires-clause-a_lt_most_events : goal.put_pair-requires-clause-a_lt_most_events
put_pair-requires-clause-a_lt_most_events c =
    few_ends _ c.requires.laid c.requires.events_named _ c.earlier-a.ensures c.later-b.ensures (omega (arith, c.loop-i-test.true, c.pairs-i-end.ensures))

pub loop-i-preserved : goal.loop-i-preserved
loop-i-preserved c =
    let within = few_ends _ c.requires.laid c.requires.events_named _ c.earlier-a.ensures c.later-b.ensures (omega (arith, c.loop-i-test.true, c.pairs-i-end.ensures)) in
    let repeats = repeat_marked _ _ _ _ _ c.loop-i.invariant.2 _ _ c.earlier-a.ensures c.later-b.ensures within.1 in (
      omega (arith, c.loop-i-test.true, c.pairs-i-end.ensures),
      search_more _ _ c.loop-i.invariant.1 (told (c.is_marked.ensures ∙ repeats) c.if-is_marked.false),
      more _ _ c.loop-i.invariant.2 _ _ c.earlier-a.ensures c.later-b.ensures c.mark.ensures c.put_pair.ensures.0 c.put_pair.ensures.1,
    )

pub returns-clause-fault : goal.returns-clause-fault
unfolding repeated
returns-clause-fault c = ap (tell 10) (sym (first_done _ _ _ _ c.pairs-i-end.ensures c.loop-i-test.false c.loop-i.invariant.1))
