-- u is one pair back where it is marked so, and else some event after u is: the last skeleton pair into `cur` starts there.
use Rattle.std.proofs.Common.{sym, ◌∙◌, rules}
use Rattle.fold.proofs.Walks.{step_here, step_there, step_exists}
use Rattle.fold.proofs.step_back.Goals as goal

pub returns-then-is_marked : goal.returns-then-is_marked
returns-then-is_marked c = record { result_lt_most_events = search rules; stepped_back = λ P index way b. step_here way b (sym c.is_marked.ensures ∙ c.if-is_marked.true) }

pub returns-in-None : goal.returns-in-None
returns-in-None c =
    let unmarked = sym c.is_marked.ensures ∙ c.if-is_marked.false in
    absurd (step_exists c.requires.may_step.2 c.requires.may_step.3 unmarked c.in-None.ensures)

pub returns-in-Some : goal.returns-in-Some
returns-in-Some c =
    let both = c.in-Some.ensures in
    record { result_lt_most_events = both.below; stepped_back = λ P index way b. step_there way b _ both }
