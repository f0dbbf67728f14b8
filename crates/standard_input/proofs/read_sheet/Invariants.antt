-- The part of the row that is filled lies within it, so that the part that is still to be filled does, too.
use Rattle.std.proofs.Common.{◌≤◌, ◌≡◌, length}
use Rattle.standard_input.proofs.read_sheet.Given as goal

abbrev pub invariant-loop : goal.invariant-loop
invariant-loop g l = (l.done ≤ length l.row) × (length l.row ≡ length l.initial.row)
