-- The pairs are listed, the events that wait for none are queued, and the pairs of all events of the queue are gone over.
use Rattle.sorting.specs.InRows.{plan_in}
use Rattle.sorting.proofs.Listing.{listed_start}
use Rattle.sorting.proofs.Seeding.{round_start}
use Rattle.sorting.proofs.sort_events.Goals as goal

pub list_pairs-requires : goal.list_pairs-requires
list_pairs-requires c = listed_start (plan_in c.args.pairs.now) c.args.sorting.now.lists 256 c.requires

pub sort-requires-clause-round : goal.sort-requires-clause-round
sort-requires-clause-round c = round_start _ _ _ _ c.args.pairs.now.within.few c.list_pairs.ensures.waits c.seed-tail.ensures
