-- The first part of the row comes back folded, the rest with the shares: together they are the flow row.
use Rattle.std.proofs.Common.{arith, sym, ◌∙◌, length-take-le}
use Rattle.fold.proofs.Parts.{lent_long, parts_shares, parts_folded}
use Rattle.fold.proofs.write_flow.Goals as goal

pub slice_bounds-fold-end-2 : goal.slice_bounds-fold-end-2
slice_bounds-fold-end-2 c = sym (length-take-le _ _ (omega arith))

pub fold-requires : goal.fold-requires
fold-requires c =
    let g = c.requires.may_fold in
    (g.0, g.1, g.2 ∙ sym (length-take-le _ _ (omega arith)))

pub write_shares-requires : goal.write_shares-requires
write_shares-requires c =
    let a = c.args in
    let g = c.requires.may_fold.1 in
    (lent_long a.pairs a.row.now c.fold.new.row (omega arith) c.fold.auto.row _ (omega arith), omega (arith, g.events, g.way.few))

pub returns : goal.returns
returns c =
    let a = c.args in
    let first = c.fold.new.row in record {
      all_folded = λ P g m.
          let f = c.fold.ensures P g (m ∙ sym (length-take-le _ _ (omega arith))) in
          parts_folded a.pairs a.row.now first (omega arith) c.fold.auto.row c.write_shares.new.part P _ m f;
      shares_from = parts_shares a.pairs a.row.now first (omega arith) c.fold.auto.row _ _ _ c.write_shares.ensures;
    }
