-- No flow that meets rules 1 and 2 gets by with fewer shares than a done set and its front ask for.
use Rattle.std.specs.Prelude.{ℕ, ◌+◌, ◌≤◌, ◌<◌, Bool, true, false, ◌||◌, ◌↔◌, T, ℤ, pos, ◌+ℤ◌, ◌-ℤ◌}
use native.Mathlib.Omega.{arith}
use Rattle.std.proofs.Common.{sym, subst}
use Rattle.std.proofs.Math.Dec.{leb→le, le→leb}
use Rattle.std.specs.Int.Signed.{le_z}
use Rattle.finite.specs.Bounded.{all_yes, yes_all}
use Rattle.finite.specs.Subset.{Set}
use Rattle.finite.specs.Sum.{on, over, at_end, sum_mono, sum_add, on_mono, over_ends, over_all, over_add}
use Rattle.plan.specs.Net.{Net, Plan, taken_by, given_by}
use Rattle.plan.specs.Order.{Sound}
use Rattle.plan.specs.Prefix.{IsPrefix, front}
use Rattle.plan.specs.Flow.{Flow, share, shares, inflow, outflow, rule1, rule2}
use Rattle.theory.specs.Least.{taken, given}
use Rattle.theory.specs.Prefixes.{reached, prefix_stage}
use Rattle.theory.specs.Signs.{passed_minus, le_minus}

-- rules 1 and 2, event by event and without signs
pub record Passes (N : Net) (P : Plan) (p : ℕ) (x : Flow) : Type 0 where
  pub fed : (v : ℕ) → v < P.events → taken_by N P p v ≤ inflow P x v
  pub kept : (v : ℕ) → v < P.events → outflow P x v + taken_by N P p v ≤ inflow P x v + given_by N P p v

module _ (N : Net) (P : Plan) (p : ℕ) (x : Flow) where
  rule2_at : (v : ℕ) → T (le_z (pos (outflow P x v)) (pos (inflow P x v) -ℤ pos (taken_by N P p v) +ℤ pos (given_by N P p v)))
      ↔ (outflow P x v + taken_by N P p v ≤ inflow P x v + given_by N P p v)
  rule2_at v =
      subst
      (λ (z : ℤ). T (le_z (pos (outflow P x v)) z) ↔ (outflow P x v + taken_by N P p v ≤ inflow P x v + given_by N P p v))
      (sym (passed_minus (inflow P x v) (taken_by N P p v) (given_by N P p v)))
      (le_minus (outflow P x v) (inflow P x v + given_by N P p v) (taken_by N P p v))

  pub rules_pass : T (rule1 N P p x) → T (rule2 N P p x) → Passes N P p x
  unfolding rule1 rule2
  rules_pass r s =
      record { fed = λ v l. leb→le (taken_by N P p v) (inflow P x v) (all_yes P.events _ r v l); kept = λ v l. (rule2_at v).0 (all_yes P.events _ s v l) }

  pub passes_rules : Passes N P p x → T (rule1 N P p x) × T (rule2 N P p x)
  unfolding rule1 rule2
  passes_rules f = (
    yes_all P.events _ (λ v l. le→leb (taken_by N P p v) (inflow P x v) (f.fed v l)),
    yes_all P.events _ (λ v l. (rule2_at v).1 (f.kept v l)),
  )

-- at one event: done, in the front, or neither
at_event : (d f : Bool) (out t g inn : ℕ) → t ≤ inn → out + t ≤ inn + g → on d out + on (d || f) t ≤ on (d || f) inn + on d g
at_event true f out t g inn h k = k
at_event false true out t g inn h k = omega arith
at_event false false out t g inn h k = omega arith

module _ (N : Net) (P : Plan) (p : ℕ) (S : Sound P) (x : Flow) (f : Passes N P p x) (D : Set) (d : IsPrefix P D) where
  U : Set
  U = reached P D

  summed : over P.events D (outflow P x) + taken N P p D ≤ over P.events U (inflow P x) + over P.events D (given_by N P p)
  unfolding U over taken
  summed =
      omega (
        arith,
        sum_mono P.events (λ v. on (D v) (outflow P x v) + on (U v) (taken_by N P p v)) (λ v. on (U v) (inflow P x v) + on (D v) (given_by N P p v)) each,
        sum_add P.events (λ v. on (D v) (outflow P x v)) (λ v. on (U v) (taken_by N P p v)),
        sum_add P.events (λ v. on (U v) (inflow P x v)) (λ v. on (D v) (given_by N P p v)),
      )
    where
      each : (v : ℕ) → v < P.events → on (D v) (outflow P x v) + on (U v) (taken_by N P p v) ≤ on (U v) (inflow P x v) + on (D v) (given_by N P p v)
      each v l = at_event (D v) (front P D v) (outflow P x v) (taken_by N P p v) (given_by N P p v) (inflow P x v) (f.fed v l) (f.kept v l)

  -- what flows into the stage comes from its done set
  crossing : over P.events U (at_end P.pairs P.later x) ≤ over P.events D (outflow P x)
  unfolding U outflow
  crossing =
      omega (
        arith,
        over_ends P.events P.pairs U P.later x S.later_named,
        over_ends P.events P.pairs D P.earlier x S.earlier_named,
        sum_mono P.pairs (λ i. on (U (P.later i)) (x i)) (λ i. on (D (P.earlier i)) (x i)) each,
      )
    where
      each : (i : ℕ) → i < P.pairs → on (U (P.later i)) (x i) ≤ on (D (P.earlier i)) (x i)
      each i l = on_mono (U (P.later i)) (D (P.earlier i)) (x i) ((prefix_stage P S D (λ i. true) d).into i l tt)

  -- The shares cover all that a done set and its front take, less what the done set gives.
  pub weak_duality : taken N P p D ≤ shares P x + given N P p D
  unfolding shares inflow
  weak_duality =
      omega (
        arith,
        summed,
        crossing,
        over_add P.events U (share P x) (at_end P.pairs P.later x),
        over_all P.events U (share P x),
      )
