-- `least::settle_rows` meets its contract: whatever place has the rows, drawing and settling keep a tokenflow of it, and the shares at the end
-- are the least opening count or within what is enough. All of it happens in the rows that were lent.
use Rattle.std.proofs.Common.{sym}
use Rattle.drawing.specs.Moves.{moved_then}
use Rattle.least.specs.PlaceRows.{unfed_flows}
use Rattle.least.specs.Settled.{small_lack, place_settled}
use Rattle.least.proofs.settle_rows.Goals as goal

pub draw_all-requires-clause-holds : goal.draw_all-requires-clause-holds
draw_all-requires-clause-holds c =
    let at = c.requires.some_place.3 in
    unfed_flows _ _ at.few c.clear.ensures _ c.requires.rows_for.0 at.small_gives at.small_takes

pub total-requires-clause-small : goal.total-requires-clause-small
total-requires-clause-small c =
    small_lack _ _ _ _ _ _ _ c.requires.some_place.3 c.clear.ensures (moved_then _ _ _ _ _ c.draw_all.ensures c.settle.ensures.moves)

pub returns-clause-settles : goal.returns-clause-settles
returns-clause-settles c =
    λ N P p place.
    place_settled N P p _ _ _ _ place c.clear.ensures (moved_then _ _ _ _ _ c.draw_all.ensures c.settle.ensures.moves) _ _ _ c.settle.ensures.ended c.total.ensures

pub returns-clause-same_rows : goal.returns-clause-same_rows
returns-clause-same_rows c =
    sym (moved_then _ _ _ _ _ c.draw_all.ensures c.settle.ensures.moves).kept.names
