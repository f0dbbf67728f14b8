-- The least opening count is the least sum of shares of a flow otherwise valid, and the missing count its least overrun: one has it, none has
-- less.
use Rattle.std.specs.Prelude.{ℕ, ◌+◌, ◌-◌, ◌≤◌, ◌<◌, Bool, not, ◌&&◌, ◌≡◌, eqb, ltb}
use Rattle.std.proofs.Math.Nat.{le_antisymm, add-sub_cancel_left}
use native.Mathlib.Omega.{arith}
use Rattle.std.proofs.Math.Bool.{cond}
use Rattle.std.proofs.Math.Logic.{⊎_elim}
use Rattle.std.proofs.Common.{sym, ◌∙◌, lt-ltb, le-ltb}
use Rattle.std.proofs.Math.Path.{ap, subst}
use Rattle.std.proofs.Math.Dec.{T, eqb_refl}
use Rattle.std.proofs.Math.Facts.{and_yes, yes_and}
use Rattle.finite.specs.Bounded.{yes_all, decide, yes_or_left, yes_or_right}
use Rattle.finite.specs.Sum.{on, at_end, sum_ext, over_mono}
use Rattle.plan.specs.Net.{Net, Plan, taken_by, given_by}
use Rattle.plan.specs.Order.{Sound, skeleton}
use Rattle.plan.specs.Prefix.{missing, least_opening}
use Rattle.plan.specs.Flow.{Flow, share, shares, inflow, outflow, rule1, rule2, rule4, otherwise_valid, overrun}
use Rattle.theory.specs.Duality.{Passes, rules_pass, passes_rules, weak_duality}
use Rattle.theory.specs.Existence.{Demand, Fits, Meets, flow_exists}
use Rattle.theory.specs.Least.{taken, least_bounds, least_attained}
use Rattle.theory.specs.Missing.{missing_opening}
use Rattle.theory.specs.Prefixes.{reached, stage_prefix, stage_reached}
use Rattle.theory.specs.Stage.{picked_same, picked_only}

module _ (N : Net) (P : Plan) (p : ℕ) (S : Sound P) where
  -- No flow otherwise valid has fewer shares.
  pub shares_bounds : (x : Flow) → T (otherwise_valid N P p x) → least_opening N P p ≤ shares P x
  unfolding otherwise_valid
  shares_bounds x t =
      let h = and_yes (rule1 N P p x && rule2 N P p x) (rule4 P x) t in
      let k = and_yes (rule1 N P p x) (rule2 N P p x) h.0 in
      let w = least_attained N P p S in
      omega (arith, w.2, weak_duality N P p S x (rules_pass N P p x k.0 k.1) w.0 w.1)

  -- the flow that is asked for, in the words of `Existence`
  asked : Demand
  asked = record { top = taken_by N P p; extra = λ v. 0; used_up = taken_by N P p; given = given_by N P p }

  fit : Fits P.events P.pairs P.earlier P.later (skeleton P) asked (least_opening N P p)
  unfolding asked taken
  fit =
      record {
        fits = λ D U w z s.
            omega (
              arith,
              least_bounds N P p S D (stage_prefix P S D U w s),
              picked_same P.events D U (taken_by N P p) s.inside,
              picked_only P.events D U (given_by N P p),
              over_mono P.events U (reached P D) (taken_by N P p) (λ v l u. stage_reached P S D U w s v u),
            );
      }

  -- numbers on the pairs and shares as one row
  joined : (ℕ → ℕ) → (ℕ → ℕ) → Flow
  joined x s i = cond (ltb i P.pairs) (x i) (s (i - P.pairs))

  joined_pair : (x s : ℕ → ℕ) (i : ℕ) → i < P.pairs → joined x s i ≡ x i
  unfolding joined
  joined_pair x s i l = ap (λ (t : Bool). cond t (x i) (s (i - P.pairs))) (lt-ltb i P.pairs l)

  joined_share : (x s : ℕ → ℕ) (v : ℕ) → share P (joined x s) v ≡ s v
  unfolding joined
  joined_share x s v =
      ap (λ (t : Bool). cond t (x (P.pairs + v)) (s (P.pairs + v - P.pairs))) (le-ltb (P.pairs + v) P.pairs (omega arith)) ∙ ap s (add-sub_cancel_left P.pairs v)

  joined_end : (x s e : ℕ → ℕ) (v : ℕ) → at_end P.pairs e (joined x s) v ≡ at_end P.pairs e x v
  unfolding at_end
  joined_end x s e v = sum_ext P.pairs _ _ (λ i l. ap (on (eqb (e i) v)) (joined_pair x s i l))

  module _ (x s : ℕ → ℕ) (m : Meets P.events P.pairs P.earlier P.later (skeleton P) asked (least_opening N P p) x s) where
    passes : Passes N P p (joined x s)
    unfolding inflow outflow asked
    passes =
        record {
          fed = λ v l. omega (arith, m.tops v l, joined_share x s v, joined_end x s P.later v);
          kept = λ v l. omega (arith, m.bottoms v l, joined_share x s v, joined_end x s P.later v, joined_end x s P.earlier v);
        }

    fourth : T (rule4 P (joined x s))
    unfolding rule4
    fourth =
        yes_all P.pairs _ (λ i l. ⊎_elim (λ t. yes_or_left (skeleton P i) _ t) (λ t. yes_or_right (skeleton P i) _ (empty-pair i l t)) (decide (skeleton P i)))
      where
        empty-pair : (i : ℕ) → i < P.pairs → T (not (skeleton P i)) → T (eqb (joined x s i) 0)
        empty-pair i l t = subst (λ (y : ℕ). T (eqb y 0)) (sym (joined_pair x s i l ∙ m.unused i l t)) (eqb_refl 0)

    few : shares P (joined x s) ≤ least_opening N P p
    unfolding shares
    few = omega (arith, m.total, sum_ext P.events (share P (joined x s)) s (λ v l. joined_share x s v))

  -- Some flow otherwise valid has exactly as many.
  pub shares_attained : (x : Flow) × T (otherwise_valid N P p x) × (shares P x ≡ least_opening N P p)
  unfolding otherwise_valid
  shares_attained =
      let w = flow_exists P.events P.pairs P.earlier P.later (skeleton P) asked (least_opening N P p) S.earlier_named S.later_named fit in
      let x : Flow = joined w.0 w.1 in
      let r = passes_rules N P p x (passes w.0 w.1 w.2) in
      let both = yes_and (rule1 N P p x) (rule2 N P p x) r.0 r.1 in
      let t : T (rule1 N P p x && rule2 N P p x && rule4 P x) = yes_and (rule1 N P p x && rule2 N P p x) (rule4 P x) both (fourth w.0 w.1 w.2) in
      (x, t, le_antisymm (few w.0 w.1 w.2) (shares_bounds x t))

  -- So no flow otherwise valid overruns by fewer than the missing count, and some by exactly as many.
  pub overrun_bounds : (x : Flow) → T (otherwise_valid N P p x) → missing N P p ≤ overrun N P p x
  unfolding overrun
  overrun_bounds x t = omega (arith, shares_bounds x t, missing_opening N P p)

  pub overrun_attained : (x : Flow) × T (otherwise_valid N P p x) × (overrun N P p x ≡ missing N P p)
  unfolding overrun
  overrun_attained = let w = shares_attained in (w.0, w.1, omega (arith, w.2, missing_opening N P p))
