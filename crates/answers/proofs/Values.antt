-- What is told of an answer and of its value is what it says.
use Rattle.std.specs.Prelude.{◌≡◌, refl, Result, Ok, Err}
use Rattle.std.specs.Result.{result_unwrap_or}
use Rattle.calls.specs.Said.{says}
use Rattle.sheet.specs.Answered.{told_by}
use Rattle.sheet.specs.declared.Fault.{Fault}
use Rattle.answers.specs.ForC.{value_or}

pub fault_said : {A : Type 0} (r : Result A Fault) → told_by r ≡ (says r).fault
fault_said (Ok x) = refl
fault_said (Err f) = refl

pub value_said : {A : Type 0} (r : Result A Fault) (none : A) → result_unwrap_or r none ≡ value_or none (λ x. x) (says r).values
value_said (Ok x) none = refl
value_said (Err f) none = refl
