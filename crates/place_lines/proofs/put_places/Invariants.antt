-- The loop has written the lines of the places below p, in at most 67 bytes each.
use Rattle.sheet.specs.Table.{places_of}
use Rattle.sheet.specs.Items.{net_of, plan_of}
use Rattle.lines.specs.Room.{place_room}
use Rattle.lines.specs.Listing.{line_of}
use Rattle.text.specs.Output.{Writing}
use Rattle.place_lines.proofs.put_places.Given as goal

abbrev pub invariant-loop-p : goal.invariant-loop-p
invariant-loop-p l = Writing l.initial.out l.out (line_of (net_of l.sheet.bytes.now) (plan_of l.sheet.bytes.now)) place_room (places_of l.sheet.bytes.now) l.p
