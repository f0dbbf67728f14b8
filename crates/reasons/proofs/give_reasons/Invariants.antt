-- The invariant: the reasons so far are written, the kept pairs are marked and counted (`SoFar`). So the marks say the reason of the next pair.
use Rattle.std.proofs.Common.{◌≤◌, length}
use Rattle.ids.specs.Limits.{most_pairs}
use Rattle.sheet.specs.Table.{pairs_of}
use Rattle.reasons.proofs.Giving.{SoFar}
use Rattle.reasons.proofs.give_reasons.Given as goal

abbrev pub invariant-loop-i : goal.invariant-loop-i
invariant-loop-i l =
    (l.i ≤ pairs_of l.sheet.bytes.now) × (most_pairs ≤ length l.reasons) × SoFar l.sheet.bytes.now l.initial.reasons l.reasons l.succ l.kept l.i
