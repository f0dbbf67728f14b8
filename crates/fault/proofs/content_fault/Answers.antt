-- Part after part, in the order of the list: a part that found nothing leaves it to the next, and the first that found something is told.
use Rattle.std.proofs.Common.{ℕ, List, arith, ◌≡◌, refl, sym, ◌∙◌}
use Rattle.std.proofs.lemmas.Result.{err_from_is_err_and}
use Rattle.sheet.specs.Answered.{told_some}
use Rattle.sheet.specs.Chain.{here, later}
use Rattle.sheet.specs.Faults.{no_event, self_pair, number_faults, order_faults, content_faults, first_fault}
use Rattle.sheet.specs.Told.{no_fault, tell, tell_none}
use Rattle.fault.proofs.Chain.{from8, from9, from_5}
use Rattle.fault.proofs.content_fault.Goals as goal

module _ (s : List ℕ) (no_number : no_fault ≡ first_fault number_faults s) where
  -- without 5 to 7, those from 8 on decide
  no_7 : first_fault content_faults s ≡ from8 s
  no_7 = later _ (from_5 s) no_number refl

  module _ (no_end : no_fault ≡ tell 8 (no_event s)) where
    no_8 : first_fault content_faults s ≡ from9 s
    no_8 = later _ no_7 no_end refl

    no_9 : no_fault ≡ tell 9 (self_pair s) → first_fault content_faults s ≡ first_fault order_faults s
    no_9 no_self = later _ no_8 no_self refl

pub returns-in_err-number_fault-clause-fault : goal.returns-in_err-number_fault-clause-fault
returns-in_err-number_fault-clause-fault c =
    let e = err_from_is_err_and c.from_residual.result c.from_residual.ensures.1 in
    rw (e.1, e.2) (here _ (from_5 _) c.in_err-number_fault.ensures (told_some _))

pub returns-in_err-no_event-clause-fault : goal.returns-in_err-no_event-clause-fault
returns-in_err-no_event-clause-fault c =
    let e = err_from_is_err_and c.from_residual-in_err-no_event.result c.from_residual-in_err-no_event.ensures.1 in
    rw (e.1, e.2) (here _ (no_7 _ c.in_ok-number_fault.ensures) c.in_err-no_event.ensures (told_some _))

pub returns-in_err-self_pair-clause-fault : goal.returns-in_err-self_pair-clause-fault
returns-in_err-self_pair-clause-fault c =
    let e = err_from_is_err_and c.from_residual-in_err-self_pair.result c.from_residual-in_err-self_pair.ensures.1 in
    rw (e.1, e.2) (here _ (no_8 _ c.in_ok-number_fault.ensures c.in_ok-no_event.ensures) c.in_err-self_pair.ensures (told_some _))

pub order_fault-requires-clause-events_named : goal.order_fault-requires-clause-events_named
order_fault-requires-clause-events_named c = tell_none 8 _ (omega arith) c.in_ok-no_event.ensures refl

pub returns-clause-fault : goal.returns-clause-fault
returns-clause-fault c =
    c.order_fault.ensures.fault ∙ sym (no_9 _ c.in_ok-number_fault.ensures c.in_ok-no_event.ensures c.in_ok-self_pair.ensures)
