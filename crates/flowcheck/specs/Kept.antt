-- Rules 1 and 2 at one event. Document 01, "Compact tokenflow".
use Rattle.std.specs.Prelude.{ℕ, ◌+◌, ◌≤◌, Bool, ◌&&◌, ◌↔◌, T, leb}
use Rattle.std.proofs.Common.{leb→le, le→leb}
use Rattle.std.proofs.Math.Facts.{and_yes, yes_and}
use Rattle.plan.specs.Net.{Net, Plan, taken_by, given_by}
use Rattle.plan.specs.Flow.{Flow, inflow, outflow, rule1, rule2}

-- 1. In(v) is at least what v takes. 2. Out(v) is at most in(v) − takes of v + gives of v, here without signs.
unfoldable pub kept : ℕ → ℕ → ℕ → ℕ → Bool
kept taken given arrived left = leb taken arrived && leb (left + taken) (arrived + given)

-- both at event v
abbrev pub kept_at : Net → Plan → ℕ → Flow → ℕ → Bool
kept_at N P p x v = kept (taken_by N P p v) (given_by N P p v) (inflow P x v) (outflow P x v)

-- rules 1 and 2
abbrev pub balanced : Net → Plan → ℕ → Flow → Bool
balanced N P p x = rule1 N P p x && rule2 N P p x

pub kept_holds : (taken given arrived left : ℕ) → T (kept taken given arrived left) ↔ ((taken ≤ arrived) × (left + taken ≤ arrived + given))
unfolding kept
kept_holds taken given arrived left = (
  λ t.
      let both = and_yes (leb taken arrived) (leb (left + taken) (arrived + given)) t in
      (leb→le taken arrived both.0, leb→le (left + taken) (arrived + given) both.1),
  λ h.
      yes_and
      (leb taken arrived)
      (leb (left + taken) (arrived + given))
      (le→leb taken arrived h.0)
      (le→leb (left + taken) (arrived + given) h.1),
)
