use Rattle.std.proofs.Common.{arith, rules}
use Rattle.skeleton.proofs.Links.{links_none, links_all, link_skip, link_more}
use Rattle.skeleton.proofs.index_pairs.Goals as goal
use Rattle.skeleton.proofs.index_pairs.Goals.{then-is_skeleton, else-is_skeleton}

pub loop-i-init : goal.loop-i-init
loop-i-init c = (search rules, links_none _ _ _ _ (omega arith) (search rules) (search rules))

pub loop-i-preserved : goal.loop-i-preserved
loop-i-preserved c =
    let known = c.requires.faultless in
    let rows = c.requires.order_rows in
    let a = c.earlier-a.ensures in
    let b = c.later-b.ensures in
    let told = c.is_skeleton.ensures in
    let links = c.loop-i.invariant.1 in
    elim c.if-is_skeleton.branch [
      | then-is_skeleton w ↦ (
        search rules,
        rw w.skeleton-is (link_more known (omega arith) a b rows told links w.if-is_skeleton.true w.mark.ensures w.list_pair.ensures),
      )
      | else-is_skeleton w ↦ (search rules, rw w.skeleton-is (link_skip known (omega arith) a b rows told links w.if-is_skeleton.false))
    ]

pub returns : goal.returns
returns c = links_all c.loop-i.invariant.1 (omega arith)
