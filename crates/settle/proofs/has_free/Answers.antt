-- Rests on what a test of a mark says of a set.
use Rattle.std.proofs.Common.{rules}
use Rattle.settle.proofs.Rounds.{said_met, said_unmet}
use Rattle.settle.proofs.has_free.Goals as goal

pub returns-then-is_marked : goal.returns-then-is_marked
returns-then-is_marked c = search (rules, said_met)

pub returns-else-is_marked : goal.returns-else-is_marked
returns-else-is_marked c = search (rules, said_unmet)
