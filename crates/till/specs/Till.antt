-- What the till server gets. Document 01, "Calls": 0 for a plan that runs, the fault number for a refused call, or 1,000 plus the number
-- of the first short place. It lends the sheet alone, so that the faults are those of a sheet.
use Rattle.std.specs.Prelude.{ℕ, ◌+◌, List}
use Rattle.std.proofs.Math.Option.{Option, none, some}
use Rattle.calls.specs.Said.{Said, unless_refused}
use Rattle.ids.specs.Limits.{most_places}
use Rattle.sheet.specs.Faults.{fault_of}
use Rattle.summary.specs.Summary.{PlanValues}
use Rattle.plan_judgement.specs.Judgement.{plan_values}

-- one number for what the plan judgement says: the verdict's, else the fault's
abbrev pub one_number : ℕ → Option PlanValues → ℕ
one_number fault none = fault
one_number fault (some values) = values.number

abbrev pub number_said : Said PlanValues → ℕ
number_said said = one_number said.fault.number said.values

unfoldable pub till_answer : List ℕ → ℕ
till_answer s = number_said (unless_refused (fault_of s) (plan_values s))

-- every answer is below this
abbrev pub answers_below : ℕ
answers_below = 1000 + most_places
