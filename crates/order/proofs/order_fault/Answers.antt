-- The repeats first: without one all pairs stand in rows. Then the cycles of the plan in the rows, which is the sheet's; turned, it has none either.
use Rattle.std.proofs.Common.{Bool, ap, subst, ◌∙◌}
use Rattle.std.proofs.lemmas.Result.{IfOk-weaker, err_from_is_err_and}
use Rattle.closure.proofs.Turned.{turned_cycle}
use Rattle.closure.specs.PlanRows.{Predecessors}
use Rattle.plan.specs.Net.{Plan}
use Rattle.sheet.specs.Answered.{told_some}
use Rattle.sheet.specs.Told.{tell, plain}
use Rattle.sorting.specs.Rows.{has_cycle}
use Rattle.order.proofs.Cycles.{in_rows, cycle_told, after_within, ahead_within, wanted_rows, fault_10}
use Rattle.order.proofs.order_fault.Goals as goal

pub returns-in_err-mark_pairs-clause-fault : goal.returns-in_err-mark_pairs-clause-fault
returns-in_err-mark_pairs-clause-fault c =
    let p = err_from_is_err_and c.from_residual.result c.from_residual.ensures.1 in rw (p.1, p.2) (fault_10 _ c.in_err-mark_pairs.ensures.fault (told_some _))

pub invariant_of-pairs : goal.invariant_of-pairs
invariant_of-pairs c = record { within = in_rows _ c.requires.laid c.requires.events_named c.in_ok-mark_pairs.ensures.pairs_held c.events.ensures c.pairs.ensures }

pub invariant_of-pairs-in-Before : goal.invariant_of-pairs-in-Before
invariant_of-pairs-in-Before c =
    record { within = in_rows _ c.requires.laid c.requires.events_named c.in_ok-mark_pairs.ensures.pairs_held c.events.ensures c.pairs.ensures }

pub arrange-requires : goal.arrange-requires
arrange-requires c =
    record { within = ahead_within _ c.requires.laid c.requires.events_named c.in_ok-mark_pairs.ensures.pairs_held c.events.ensures c.pairs.ensures c.requires.blank.1 }

pub invariant_of-pairs-in-Both : goal.invariant_of-pairs-in-Both
invariant_of-pairs-in-Both c =
    record { within = in_rows _ c.requires.laid c.requires.events_named c.in_ok-mark_pairs.ensures.pairs_held c.events.ensures c.pairs.ensures }

pub arrange-requires-in-Both : goal.arrange-requires-in-Both
arrange-requires-in-Both c =
    record { within = ahead_within _ c.requires.laid c.requires.events_named c.in_ok-mark_pairs.ensures.pairs_held c.events.ensures c.pairs.ensures c.requires.blank.1 }

pub returns-in_err-arrange-in-Both-clause-fault : goal.returns-in_err-arrange-in-Both-clause-fault
returns-in_err-arrange-in-Both-clause-fault c =
    let first = c.in_ok-mark_pairs.ensures in
    let p = err_from_is_err_and c.from_residual-in_err-arrange-in-Both.result c.from_residual-in_err-arrange-in-Both.ensures.1 in
    rw (p.1, p.2) (cycle_told _ c.requires.laid c.requires.events_named first.pairs_held c.events.ensures c.pairs.ensures first.fault c.in_err-arrange-in-Both.ensures.fault)

pub arrange-requires-in-Both-2 : goal.arrange-requires-in-Both-2
arrange-requires-in-Both-2 c =
    record { within = rw c.turned-in-Both.ensures (after_within _ c.requires.laid c.requires.events_named c.in_ok-mark_pairs.ensures.pairs_held c.events.ensures c.pairs.ensures) }

pub returns-in-Nothing-clause-fault : goal.returns-in-Nothing-clause-fault
returns-in-Nothing-clause-fault c =
    let first = c.in_ok-mark_pairs.ensures in
    cycle_told _ c.requires.laid c.requires.events_named first.pairs_held c.events.ensures c.pairs.ensures first.fault c.find_cycle.ensures

pub returns-in-Before-clause-fault : goal.returns-in-Before-clause-fault
returns-in-Before-clause-fault c =
    let first = c.in_ok-mark_pairs.ensures in
    cycle_told _ c.requires.laid c.requires.events_named first.pairs_held c.events.ensures c.pairs.ensures first.fault c.arrange.ensures.fault

pub returns-in-Before-clause-rows : goal.returns-in-Before-clause-rows
returns-in-Before-clause-rows c =
    IfOk-weaker _ _ _ (λ x ahead.
    wanted_rows _ c.requires.laid c.requires.events_named c.in_ok-mark_pairs.ensures.pairs_held c.events.ensures c.pairs.ensures
    (λ t. absurd (rw c.in-Before.is at t)) (λ t. ahead)) c.arrange.ensures.predecessors

pub returns-in_ok-arrange-in-Both-clause-fault : goal.returns-in_ok-arrange-in-Both-clause-fault
returns-in_ok-arrange-in-Both-clause-fault c =
    let first = c.in_ok-mark_pairs.ensures in
    let turned = ap (λ (P : Plan). tell 11 (plain (has_cycle P))) c.turned-in-Both.ensures ∙ ap (λ (b : Bool). tell 11 (plain b)) (turned_cycle _) in
    cycle_told _ c.requires.laid c.requires.events_named first.pairs_held c.events.ensures c.pairs.ensures first.fault (c.arrange-in-Both-2.ensures.fault ∙ turned)

pub returns-in_ok-arrange-in-Both-clause-rows : goal.returns-in_ok-arrange-in-Both-clause-rows
returns-in_ok-arrange-in-Both-clause-rows c =
    IfOk-weaker _ _ _ (λ x after.
    wanted_rows _ c.requires.laid c.requires.events_named c.in_ok-mark_pairs.ensures.pairs_held c.events.ensures c.pairs.ensures
    (λ t. subst (λ (P : Plan). Predecessors P c.arrange-in-Both-2.new.rows) c.turned-in-Both.ensures after) (λ t. c.in_ok-arrange-in-Both.ensures.predecessors)) c.arrange-in-Both-2.ensures.predecessors

pub invariant_of-pairs-in-After : goal.invariant_of-pairs-in-After
invariant_of-pairs-in-After c =
    record { within = in_rows _ c.requires.laid c.requires.events_named c.in_ok-mark_pairs.ensures.pairs_held c.events.ensures c.pairs.ensures }

pub arrange-requires-in-After : goal.arrange-requires-in-After
arrange-requires-in-After c =
    record { within = rw c.turned.ensures (after_within _ c.requires.laid c.requires.events_named c.in_ok-mark_pairs.ensures.pairs_held c.events.ensures c.pairs.ensures) }

pub returns-in-After-clause-fault : goal.returns-in-After-clause-fault
returns-in-After-clause-fault c =
    let first = c.in_ok-mark_pairs.ensures in
    let turned = ap (λ (P : Plan). tell 11 (plain (has_cycle P))) c.turned.ensures ∙ ap (λ (b : Bool). tell 11 (plain b)) (turned_cycle _) in
    cycle_told _ c.requires.laid c.requires.events_named first.pairs_held c.events.ensures c.pairs.ensures first.fault (c.arrange-in-After.ensures.fault ∙ turned)

pub returns-in-After-clause-rows : goal.returns-in-After-clause-rows
returns-in-After-clause-rows c =
    IfOk-weaker _ _ _ (λ x after.
    wanted_rows _ c.requires.laid c.requires.events_named c.in_ok-mark_pairs.ensures.pairs_held c.events.ensures c.pairs.ensures
    (λ t. subst (λ (P : Plan). Predecessors P c.arrange-in-After.new.rows) c.turned.ensures after) (λ t. absurd (rw c.in-After.is at t))) c.arrange-in-After.ensures.predecessors
