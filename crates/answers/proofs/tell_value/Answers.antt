use Rattle.std.proofs.Common.{subst, ◌∙◌}
use Rattle.sheet.specs.Told.{Told}
use Rattle.answers.proofs.Values.{fault_said, value_said}
use Rattle.answers.specs.ForC.{FaultTold}
use Rattle.answers.proofs.tell_value.Goals as goal

pub returns : goal.returns
returns g c =
    record {
      fault = subst (λ (t : Told). FaultTold t c.tell_fault.result c.tell_fault.new.item) (fault_said c.args.answer) c.tell_fault.ensures;
      value = c.unwrap_or.ensures ∙ value_said c.args.answer c.args.none;
    }
