-- What demand 2 says of the verdict on a whole plan, by whichever call it is told.
use Rattle.std.specs.Prelude.{ℕ, ◌<◌, List, ◌↔◌, ◌≡◌, T, Result, Ok, Err}
use Rattle.plan.specs.Cut.{Executable, Execution}
use Rattle.plan.specs.Flow.{Flow, valid}
use Rattle.sheet.specs.Table.{places_of}
use Rattle.sheet.specs.Items.{net_of, plan_of}
use Rattle.sheet.specs.declared.Fault.{Fault}
use Rattle.summary.specs.declared.Totals.{Totals}
use Rattle.summary.specs.declared.Verdict.TheVariants.{Runs, Short}

-- The plan of the sheet s doesn't run at its place p, and does at every place before it.
pub record FirstShort (s : List ℕ) (p : ℕ) : Type 0 where
  pub place : p < places_of s
  pub here : ¬ Executable (net_of s) (plan_of s) p
  pub before : (q : ℕ) → q < p → Executable (net_of s) (plan_of s) q

-- A call tells the verdict on the plan of the sheet s: `yes` is what it says of a plan that runs, `no p` of one that is short, first at p.
pub record TellsVerdict (s : List ℕ) (yes : Type 0) (no : ℕ → Type 0) : Type 0 where
  -- The plan runs exactly if every cut is covered at every place of the net (001, definition 6; 003, definition 3),
  pub by_cuts : yes ↔ Execution (net_of s) (plan_of s)
  -- and exactly if every place has a valid compact tokenflow (003, theorems 2 to 4).
  pub by_flows : yes ↔ ((p : ℕ) → p < places_of s → (x : Flow) × T (valid (net_of s) (plan_of s) p x))
  -- Short names the first place at which it doesn't; it runs at all places before that one.
  pub first : (p : ℕ) → no p ↔ FirstShort s p
  -- A plan in a net without places runs.
  pub no_places : places_of s ≡ 0 → yes

-- What the plan judgement's answer says.
abbrev pub SaysRuns : Result Totals Fault → Type 0
SaysRuns (Err f) = ⊥
SaysRuns (Ok totals) = totals.verdict ≡ Runs

abbrev pub SaysShort : Result Totals Fault → ℕ → Type 0
SaysShort (Err f) p = ⊥
SaysShort (Ok totals) p = (m : ℕ) × (totals.verdict ≡ Short (record { 0 = p }) m)
