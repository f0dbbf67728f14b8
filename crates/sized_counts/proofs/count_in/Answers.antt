-- Nobody is fed in a new row of marks.
use Rattle.least.specs.PlaceRows.{zeros_unfed}
use Rattle.sized_counts.proofs.count_in.Goals as goal

pub count_places-requires-clause-rows_for : goal.count_places-requires-clause-rows_for
count_places-requires-clause-rows_for c = (c.requires.room, zeros_unfed _ 2048)
