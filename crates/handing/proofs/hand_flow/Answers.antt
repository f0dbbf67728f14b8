-- `handing::hand_flow` meets its contract: a valid flow if nothing is missing, else zeros; what follows stays.
use Rattle.std.proofs.Common.{◌+◌, arith, ◌≡◌, length-take-le, replicate, rules}
use Rattle.calls.specs.FlowRow.{flow_length}
use Rattle.handing.proofs.Given.{filled_zeros, runs_flow, short_flow}
use Rattle.handing.proofs.hand_flow.Goals as goal

pub hand_over-requires : goal.hand_over-requires
hand_over-requires c =
    let none : c.args.m ≡ 0 = omega arith in
    let now = c.requires in
    record { faultless = now.faultless; known = now.known; order_rows = now.order_rows; shown_by = rw none at now.shown_by; room = now.room }

pub returns-then-m-eq0 : goal.returns-then-m-eq0
returns-then-m-eq0 c = runs_flow _ _ _ _ _ _ c.requires.shown_by.1.1 _ _ _ (omega arith) c.hand_over.ensures.t c.hand_over.ensures.shares_from

pub returns : goal.returns
returns c =
    let all : c.pairs.result + c.events.result ≡ flow_length c.args.sheet.now.bytes.now = omega (arith, c.pairs.ensures, c.events.ensures) in
    let cleared : c.fill.new.self ≡ replicate (c.pairs.result + c.events.result) 0 = search (rules, length-take-le) in
    let filled = filled_zeros _ _ c.args.row.now _ all c.requires.room cleared in
    short_flow _ _ _ _ _ _ c.requires.shown_by.1.1 _ _ c.if-m-eq0.false filled
