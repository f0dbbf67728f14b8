-- What the place judgement hands over: the marks of the done set, and a flow row. Document 01, "Place judgement".
use Rattle.std.specs.Prelude.{ℕ, ◌≤◌, ◌<◌, Bool, cond, ◌&&◌, List, ◌≡◌, T, ltb, length, get_or}
use Rattle.plan.specs.Net.{Net, Plan}
use Rattle.plan.specs.Flow.{valid}
use Rattle.plan.specs.Prefix.{missing, smallest}
use Rattle.sheet.specs.Items.{net_of, plan_of}
use Rattle.calls.specs.FlowRow.{flow_length, flow_of}
use Rattle.calls.specs.Overwritten.{overwritten}
use Rattle.ids.specs.declared.Place.{Place}
use Rattle.sheet.specs.Table.{events_of}
use Rattle.place.specs.Judged.{JudgedIn}

-- A mark is 1 for a member of the smallest done set of the greatest lack if something is missing, else 0.
unfoldable pub done_mark : Net → Plan → ℕ → ℕ → ℕ
done_mark N P p v = cond (ltb 0 (missing N P p) && smallest N P p v) 1 0

-- The flow row after a place is judged: a valid flow if nothing is missing, else zeros. What follows its numbers is as it was. Which valid
-- flow it is, is the one thing left free.
pub record Written (s : List ℕ) (p : ℕ) (flow flow' : List ℕ) : Type 0 where
  pub size : length flow' ≡ length flow
  pub rest : (i : ℕ) → flow_length s ≤ i → get_or flow' i 0 ≡ get_or flow i 0
  pub runs : missing (net_of s) (plan_of s) p ≡ 0 → T (valid (net_of s) (plan_of s) p (flow_of flow'))
  pub short : 0 < missing (net_of s) (plan_of s) p → flow' ≡ overwritten (λ i. 0) (flow_length s) flow

-- ---- what the parts of the judgement say

-- the row of marks after a place is judged
abbrev pub marks_done : List ℕ → ℕ → List ℕ → List ℕ
marks_done s p marks = overwritten (done_mark (net_of s) (plan_of s) p) (events_of s) marks

-- whether a row is a valid flow for a place of a sheet
abbrev pub valid_at : List ℕ → ℕ → List ℕ → Bool
valid_at s p flow = valid (net_of s) (plan_of s) p (flow_of flow)

-- The rows show that m tokens are missing.
abbrev pub ShownBy : List ℕ → Place → List ℕ → List ℕ → List ℕ → List ℕ → ℕ → Type 0
ShownBy s p pred amount fed share m =
    (givers : List ℕ) × JudgedIn s p.0 pred amount fed share givers m
