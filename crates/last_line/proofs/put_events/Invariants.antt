-- The loop has written the events below v that are done, in at most 11 bytes each.
use Rattle.std.proofs.Common.{◌-◌}
use Rattle.search.specs.Row.{members}
use Rattle.lines.specs.Room.{event_room}
use Rattle.lines.specs.Listing.{event_in}
use Rattle.text.specs.Output.{Writing}
use Rattle.last_line.proofs.put_events.Given as goal

abbrev pub invariant-loop-v : goal.invariant-loop-v
invariant-loop-v l = Writing l.initial.out l.out (event_in (members l.done)) event_room l.n l.v

abbrev pub decreases-loop-v : goal.decreases-loop-v
decreases-loop-v l = l.n - l.v
