-- Nothing is put exactly if no event is done.
use Rattle.std.proofs.Common.{◌≡◌, ◌∙◌, arith}
use Rattle.lines.specs.DoneEvents.{done_none, done_some}
use Rattle.text.specs.Words.{word}
use Rattle.last_line.proofs.put_done.Goals as goal

pub returns-then-out-start-clause-written : goal.returns-then-out-start-clause-written
unfolding word
returns-then-out-start-clause-written c =
    let same : c.put_events.new.out.at ≡ c.args.out.now.at = omega arith in
    let events = c.put_events.ensures.written in
    record { put = done_none _ _ events.put same (rw same at c.word.ensures.put); same = c.word.ensures.same ∙ events.same }

pub returns-else-out-start-clause-written : goal.returns-else-out-start-clause-written
returns-else-out-start-clause-written c =
    let events = c.put_events.ensures.written in
    record { put = done_some _ _ events.put (λ e. omega arith); same = events.same }
