-- An event's text follows its mark, by `member_told`.
use Rattle.std.proofs.Common.{arith, true, false, rules}
use Rattle.text.specs.Words.{word}
use Rattle.text.specs.Output.{written_none}
use Rattle.search.specs.Row.{member_told}
use Rattle.last_line.proofs.put_event.Goals as goal

pub returns-then-is_marked-clause-written : goal.returns-then-is_marked-clause-written
unfolding word
returns-then-is_marked-clause-written c =
    rw (member_told _ _ true (omega arith) c.is_marked.ensures (search rules)) c.field.ensures.written

pub returns-else-is_marked-clause-written : goal.returns-else-is_marked-clause-written
unfolding word
returns-else-is_marked-clause-written c =
    rw (member_told _ _ false (omega arith) c.is_marked.ensures (search rules)) (written_none _ (omega arith))
