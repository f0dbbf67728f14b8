-- The three parts are the clean sheet (`clean_put`). It is no longer than the sheet given, so there is room.
use Rattle.std.proofs.Common.{arith}
use Rattle.kept_pairs.proofs.Keeping.{kept_events, kept_most, pairs_room, clean_put}
use Rattle.kept_pairs.proofs.clean.put_clean.Goals as goal

pub lay_out-requires-clause-events_le_most_events : goal.lay_out-requires-clause-events_le_most_events
lay_out-requires-clause-events_le_most_events c =
    (omega (arith, c.layout-l.ensures.events, c.requires.laid.limited.events), omega (arith, c.requires.kept_of.count, kept_most _ c.requires.laid))

pub put_kept-requires-clause-kept_le_most_pairs : goal.put_kept-requires-clause-kept_le_most_pairs
put_kept-requires-clause-kept_le_most_pairs c =
    let events = kept_events _ c.requires.laid _ c.requires.kept_of in
    (omega (arith, c.requires.kept_of.count, kept_most _ c.requires.laid), events.0, events.1)

pub put_kept-requires-clause-kept_in_bounds : goal.put_kept-requires-clause-kept_in_bounds
put_kept-requires-clause-kept_in_bounds c =
    let table = c.put_table-table.ensures in
    let part = c.put_part-bodies.ensures.put in
    pairs_room _ _ (c.requires.laid, c.layout-l.ensures) _ _ _ table.1 part.1 (omega (arith, part.0.size, table.0.size, c.requires.room)) _ c.requires.kept_of.count

pub returns : goal.returns
returns c =
    let part = c.put_part-bodies.ensures in
    clean_put _ _ (c.requires.laid, c.layout-l.ensures) _ _ c.requires.kept_of c.lay_out.ensures.value c.put_table-table.ensures.0 (rw c.bytes.ensures at part.put.0)
    (rw c.bytes.ensures at part.bytes) c.put_kept.ensures
