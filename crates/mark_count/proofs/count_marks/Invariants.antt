-- Invariant: the marks of the first words are counted.
use Rattle.mark_count.proofs.Words.{Counted}
use Rattle.mark_count.proofs.count_marks.Given as goal

abbrev pub invariant-loop-word : goal.invariant-loop-word
invariant-loop-word l = Counted l.rows l.i l.word-index l.count
