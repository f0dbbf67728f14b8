-- What C gets of a call's answer. The C function returns the fault's number, 0 for none. Each number behind a pointer is a result, whatever
-- stood there: the fault's item, and the values of the answer, each 0 where the call is refused.
use Rattle.std.specs.Prelude.{ℕ, Bool, cond, ◌≡◌, ℤ, pos}
use Rattle.std.proofs.Math.Option.{Option, none, some}
use Rattle.calls.specs.Said.{Said}
use Rattle.sheet.specs.Told.{Told}
use Rattle.summary.specs.Summary.{PlanValues}

-- one of an answer's values, or what stands for it where there are none
abbrev pub value_or : {A B : Type 0} → B → (A → B) → Option A → B
value_or other f none = other
value_or other f (some x) = f x

-- A fault: its number is returned, its item is behind a pointer.
abbrev pub FaultTold : Told → ℕ → ℕ → Type 0
FaultTold fault r item = (r ≡ fault.number) × (item ≡ fault.item)

-- the first short place that the plan judgement says, 0 where nothing is short
abbrev pub first_said : Said PlanValues → ℕ
first_said said = value_or 0 (λ v. v.first) said.values

-- The plan judgement: the total missing, the number of short places and the first of them.
pub record PlanTold (said : Said PlanValues) (r item total short first : ℕ) : Type 0 where
  pub faulty : FaultTold said.fault r item
  pub missing : total ≡ value_or 0 (λ v. v.total) said.values
  pub places : short ≡ value_or 0 (λ v. v.short) said.values
  pub earliest : first ≡ first_said said

-- The place judgement: the spare count, with its sign.
pub record PlaceTold (said : Said ℤ) (r item : ℕ) (spare : ℤ) : Type 0 where
  pub faulty : FaultTold said.fault r item
  pub count : spare ≡ value_or (pos 0) (λ z. z) said.values

-- The flow check: 1 if the row is valid, else 0.
pub record CheckTold (said : Said Bool) (r item valid : ℕ) : Type 0 where
  pub faulty : FaultTold said.fault r item
  pub yes : valid ≡ value_or 0 (λ b. cond b 1 0) said.values

-- The mending call: the length of the clean sheet.
pub record MendTold (said : Said ℕ) (r item written : ℕ) : Type 0 where
  pub faulty : FaultTold said.fault r item
  pub length : written ≡ value_or 0 (λ n. n) said.values

-- The listing: the length of the text. Its one fault, 13, has no item.
pub record ListingTold (said : Said ℕ) (r written : ℕ) : Type 0 where
  pub faulty : r ≡ said.fault.number
  pub length : written ≡ value_or 0 (λ n. n) said.values
