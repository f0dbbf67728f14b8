-- `handing::hand_over` meets its contract: the tokenflow of a place that lacks nothing, folded, is a valid flow.
use Rattle.std.proofs.Common.{refl, sym, rules}
use Rattle.sheet.specs.Items.{plan_of}
use Rattle.handing.proofs.Given.{judged_foldable, judged_valid}
use Rattle.handing.proofs.hand_over.Goals as goal

pub write_flow-requires : goal.write_flow-requires
write_flow-requires c =
    let now = c.requires in
    let foldable = judged_foldable _ now.faultless _ now.known c.events-n.ensures _ _ _ _ _ _ now.shown_by.1 _ _ _ now.order_rows c.index_pairs.ensures in
    record { may_fold = (plan_of _, foldable, sym c.pairs-pairs.ensures); n_in_bounds = search rules }

pub returns : goal.returns
returns c =
    let now = c.requires in
    let foldable = judged_foldable _ now.faultless _ now.known c.events-n.ensures _ _ _ _ _ _ now.shown_by.1 _ _ _ now.order_rows c.index_pairs.ensures in
    let folded = c.write_flow.ensures.all_folded _ foldable (sym c.pairs-pairs.ensures) in
    let shares = rw (c.pairs-pairs.ensures, c.events-n.ensures) at c.write_flow.ensures.shares_from in
    record { t = judged_valid _ now.faultless _ now.known refl _ _ _ _ _ _ now.shown_by.1 _ _ refl folded shares; shares_from = shares }
