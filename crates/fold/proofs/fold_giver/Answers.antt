use Rattle.std.proofs.Common.{arith, sym, ◌∙◌, rules}
use Rattle.fold.proofs.Turns.{turns_none, turns_giver, turn_skip, turn_trace, turn_more}
use Rattle.fold.proofs.fold_giver.Goals as goal
use Rattle.fold.proofs.fold_giver.Goals.{then-feeds, else-feeds}

pub loop-w-init : goal.loop-w-init
loop-w-init c = (search rules, turns_none _ _ _ (omega arith))

pub trace-requires : goal.trace-requires
trace-requires c =
    let l = c.loop-w in
    let told = sym c.feeds.ensures ∙ c.if-feeds.true in
    let may = turn_trace c.args.u.0 l.w l.invariant.1 (omega arith) (omega arith) _ told c.amount-k.ensures c.requires.may_fold_giver in
    record { u_lt_most_events = search rules; may_trace = may.0; spacious = may.1 }

pub loop-w-preserved : goal.loop-w-preserved
loop-w-preserved c =
    let u = c.args.u.0 in
    let is = sym c.feeds.ensures in
    let l = c.loop-w in (
      search rules,
      elim c.if-feeds.branch [
        | then-feeds t ↦ turn_more u l.w l.invariant.1 (omega arith) (omega arith) _ (is ∙ t.if-feeds.true) t.amount-k.ensures _ _ t.row-is (search rules) t.trace.ensures
        | else-feeds t ↦ turn_skip u l.w l.invariant.1 (omega arith) (omega arith) _ (is ∙ t.if-feeds.false) t.row-is
      ],
    )

pub returns : goal.returns
returns c = turns_giver c.args.u.0 c.loop-w.w c.loop-w.invariant.1 (omega arith)
