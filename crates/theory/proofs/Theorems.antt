-- The proofs of the verdicts, of the least opening count, of the missing count and of the spare count.
use Prim.Native.Nat.{ℕ, ◌≤◌, ◌<◌}
use Rattle.std.proofs.Common.{arith, ⊎_elim, sym, ap, subst, ◌∙◌, le→leb, eq-zero-or-pos}
use Rattle.std.proofs.Math.Bool.{Bool}
use Rattle.std.specs.Prelude.{◌&&◌, ◌↔◌, ◌≡◌, ℤ, negsuc, ◌-ℤ◌}
use Rattle.std.proofs.Math.Path.{refl}
use Rattle.std.proofs.Math.Dec.{T, leb, leb→le}
use Rattle.std.proofs.Math.IntN.{pos}
use Rattle.std.specs.Int.Signed.{le_z, ◌≤ℤ◌}
use Rattle.std.proofs.Math.Facts.{and_yes, yes_and}
use Rattle.finite.specs.Bounded.{all_yes, yes_all}
use Rattle.finite.specs.Subset.{Set, empty}
use Rattle.finite.specs.Sum.{sum, over, sum_zero}
use Rattle.plan.specs.Net.{Net, Plan, taken_by}
use Rattle.plan.specs.Order.{Sound}
use Rattle.plan.specs.Prefix.{IsPrefix, lack, above0, missing, need, least_opening, spare, runs_at, runs, smallest}
use Rattle.plan.specs.Flow.{Flow, rule1, rule2, rule3, rule4, valid, otherwise_valid, overrun, shares}
use Rattle.plan.specs.Compare.{with_more, opens_with, SamePlace}
use Rattle.theory.specs.Comparisons.{missing_more, missing_opens, lack_alike, end_alike}
use Rattle.theory.proofs.Comparisons.{least_same, missing_order, missing_same, least_alike, missing_alike, smallest_alike}
use Rattle.theory.specs.Cuts.{prefixes_cuts, cuts_prefixes}
use Rattle.theory.specs.Least.{taken, given, need_is, need_above0, least_bounds, least_attained}
use Rattle.theory.specs.Missing.{supply, lack_above0, lack_need, missing_opening, missing_bounds, missing_attained, least_most}
use Rattle.theory.specs.Overrun.{shares_bounds, shares_attained, overrun_bounds, overrun_attained}
use Rattle.theory.specs.Prefixes.{empty_prefix}
use Rattle.theory.specs.Signs.{le_minus}
use Rattle.theory.specs.Spare.{spare_minus, least_spare, missing_spare, spare_more, spare_most, spare_least}
use Rattle.theory.proofs.Spare.{spare_order, spare_alike, spare_same}
use Rattle.theory.specs.Smallest.{IsSmallest, positive}
use Rattle.theory.proofs.Smallest.{smallest_is}
use Rattle.theory.specs.Theorems.{Verdict, PlanVerdict, LeastOpening, SameNumbers, LeastCount, SpareCount, below_above0, runs_none}

-- ---- the proofs

above0_below : (z : ℤ) (m : ℕ) → z ≤ℤ pos m → above0 z ≤ m
above0_below (pos n) m h = leb→le n m h.le
above0_below (negsuc n) m h = omega arith

pub same_numbers : (N : Net) (P : Plan) (p : ℕ) (M : Net) (Q : Plan) (q : ℕ) → SamePlace N P p M Q q → SameNumbers N P p M Q q
same_numbers N P p M Q q s =
    record {
      same_least = least_alike N P p M Q q s;
      same_missing = missing_alike N P p M Q q s;
      same_spare = spare_alike N P p M Q q s;
      same_lack = lack_alike N P p M Q q s;
      same_smallest = smallest_alike N P p M Q q s;
      same_end = end_alike N P p M Q q s;
    }

module _ (N : Net) (P : Plan) (p : ℕ) (S : Sound P) where
  no_lack : (D : Set) → (lack N P p D ≤ℤ pos 0) ↔ (taken N P p D ≤ supply N P p D)
  no_lack D = (
    λ h. omega (arith, above0_below (lack N P p D) 0 h, lack_above0 N P p D),
    λ h. below_above0 (lack N P p D) 0 (omega (arith, lack_above0 N P p D)),
  )

  prefixes_run : ((D : Set) → IsPrefix P D → taken N P p D ≤ supply N P p D) → T (runs_at N P p)
  prefixes_run h = let w = missing_attained N P p S in (runs_none N P p).1 (omega (arith, w.2, h w.0 w.1))

  run_prefixes : T (runs_at N P p) → (D : Set) → IsPrefix P D → taken N P p D ≤ supply N P p D
  run_prefixes t D d = omega (arith, (runs_none N P p).0 t, missing_bounds N P p S D d)

  -- a flow otherwise valid that doesn't overrun is valid, and the other way round
  valid_is : (x : Flow) → T (valid N P p x) ↔ (T (otherwise_valid N P p x) × (overrun N P p x ≡ 0))
  unfolding valid otherwise_valid overrun rule3
  valid_is x =
      let A : Bool = rule1 N P p x && rule2 N P p x in
      let B : Bool = leb (shares P x) (N.opening p) in (
        λ t.
            let h = and_yes (A && B) (rule4 P x) t in
            let k = and_yes A B h.0 in
            (yes_and A (rule4 P x) k.0 h.1, omega (arith, leb→le (shares P x) (N.opening p) k.1)),
        λ c.
            let h = and_yes A (rule4 P x) c.0 in
            yes_and (A && B) (rule4 P x) (yes_and A B h.0 (le→leb (shares P x) (N.opening p) (omega (arith, c.1)))) h.1,
      )

  pub verdict : Verdict N P p
  verdict =
      record {
        by_prefixes = (λ t D d. (no_lack D).1 (run_prefixes t D d), λ h. prefixes_run (λ D d. (no_lack D).0 (h D d)));
        by_cuts = (λ t. prefixes_cuts N P p S (run_prefixes t), λ x. prefixes_run (cuts_prefixes N P p S x));
        by_flows = (
          λ t. let w = overrun_attained N P p S in (w.0, (valid_is w.0).1 (w.1, omega (arith, w.2, (runs_none N P p).0 t))),
          λ w. let v = (valid_is w.0).0 w.1 in (runs_none N P p).1 (omega (arith, overrun_bounds N P p S w.0 v.0, v.1)),
        );
      }

  -- Where something is missing, the done sets with the greatest lack have one that is contained in all the others.
  pub smallest_set : 0 < missing N P p → IsSmallest N P p (smallest N P p)
  smallest_set short = smallest_is N P p S short

  -- the empty set gives nothing, so its need isn't below 0
  need_empty : need N P p empty ≡ pos (above0 (need N P p empty))
  unfolding over
  need_empty =
      let none : given N P p empty ≡ 0 = sum_zero P.events (λ v. 0) (λ v l. refl) in
      let from = (le_minus 0 (taken N P p empty) (given N P p empty)).1 (omega (arith, none)) in
      from_zero (need N P p empty) (subst (λ (z : ℤ). T (le_z (pos 0) z)) (sym (need_is N P p empty)) from)
    where
      from_zero : (z : ℤ) → T (le_z (pos 0) z) → z ≡ pos (above0 z)
      from_zero (pos n) t = refl
      from_zero (negsuc n) t = absurd t

  at_empty : least_opening N P p ≡ 0 → (D : Set) × IsPrefix P D × (need N P p D ≡ pos (least_opening N P p))
  at_empty e = (
    empty,
    empty_prefix P,
    need_empty ∙ ap pos (omega (arith, need_above0 N P p empty, least_bounds N P p S empty (empty_prefix P))),
  )

  above_empty : 0 < least_opening N P p → (D : Set) × IsPrefix P D × (need N P p D ≡ pos (least_opening N P p))
  above_empty l =
      let w = least_attained N P p S in
      (w.0, w.1, positive (need N P p w.0) (least_opening N P p) (omega (arith, w.2, need_above0 N P p w.0)) l)

  pub least_opening_lem : LeastOpening N P p
  least_opening_lem =
      record {
        need_bounds = λ D d. below_above0 (need N P p D) (least_opening N P p) (omega (arith, least_bounds N P p S D d, need_above0 N P p D));
        need_reached = ⊎_elim at_empty above_empty (eq-zero-or-pos (least_opening N P p));
        runs_from = λ k. (
          λ t. omega (arith, missing_opens N P p k, (runs_none (opens_with N p k) P p).0 t),
          λ h. (runs_none (opens_with N p k) P p).1 (omega (arith, missing_opens N P p k)),
        );
        shares_reached = shares_attained N P p S;
        not_undercut = λ x t. omega (arith, shares_bounds N P p S x t);
        any_opening = λ M q s. sym (least_same N P p M P q s (λ u v. (λ b. b, λ b. b)));
        lack_above = lack_need N P p;
        missing_above = missing_opening N P p;
      }

  pub least_count : LeastCount N P p
  least_count =
      record {
        enough = λ k h. (runs_none (with_more N p k) P p).1 (omega (arith, missing_more N P p k));
        too_few = λ k h t. omega (arith, missing_more N P p k, (runs_none (with_more N p k) P p).0 t);
        overrun_reached = overrun_attained N P p S;
        not_undercut = overrun_bounds N P p S;
        more_tokens = missing_more N P p;
        more_order = λ Q m. missing_order N P Q p m;
        other_places = λ M l s. sym (missing_same N M P p l s);
      }

  from_least : (k : ℕ) → (least_opening N P p ≤ k) ↔ ((pos (N.opening p) -ℤ spare N P p) ≤ℤ pos k)
  from_least k = (
    λ h. subst (λ (z : ℤ). z ≤ℤ pos k) (sym (least_spare N P p)) (record { le = le→leb (least_opening N P p) k h }),
    λ h. leb→le (least_opening N P p) k (subst (λ (z : ℤ). z ≤ℤ pos k) (least_spare N P p) h).le,
  )

  pub spare_count : SpareCount N P p
  spare_count =
      let least = least_opening_lem in
      let o = N.opening p in
      let l = least_opening N P p in
      record {
        runs_unless = (
          λ t. subst (λ (z : ℤ). pos 0 ≤ℤ z) (sym (spare_minus N P p)) (record { le = (le_minus 0 o l).1 (omega (arith, missing_opening N P p, (runs_none N P p).0 t)) }),
          λ h.
              let covered = (le_minus 0 o l).0 (subst (λ (z : ℤ). T (le_z (pos 0) z)) (spare_minus N P p) h.le) in
              (runs_none N P p).1 (omega (arith, missing_opening N P p, covered)),
        );
        runs_from = λ k. (λ t. (from_least k).0 ((least.runs_from k).0 t), λ h. (least.runs_from k).1 ((from_least k).1 h));
        shares_reached = (least.shares_reached.0, least.shares_reached.1, ap pos least.shares_reached.2 ∙ sym (least_spare N P p));
        not_undercut = λ x t. (from_least (shares P x)).0 (least.not_undercut x t);
        missing_is = missing_spare N P p;
        at_most = spare_most N P p o (omega arith);
        at_least = spare_least N P p (sum P.events (taken_by N P p)) (least_most N P p S);
        more_tokens = spare_more N P p;
        more_order = λ Q m. spare_order N P Q p m;
        other_places = λ M l s. sym (spare_same N M P p l s);
      }

-- A plan runs exactly if it does at every place.
module _ (N : Net) (P : Plan) (S : Sound P) where
  everywhere : T (runs N P) ↔ ((p : ℕ) → p < N.places → T (runs_at N P p))
  unfolding runs
  everywhere = (all_yes N.places (λ p. runs_at N P p), yes_all N.places (λ p. runs_at N P p))

  pub plan_verdict : PlanVerdict N P
  plan_verdict =
      let at : (p : ℕ) → Verdict N P p = λ p. verdict N P p S in
      record {
        by_cuts = (
          λ t. record { covered = λ p l. ((at p).by_cuts.0 (everywhere.0 t p l)).cuts },
          λ x. everywhere.1 (λ p l. (at p).by_cuts.1 (record { cuts = x.covered p l })),
        );
        by_flows = (λ t p l. (at p).by_flows.0 (everywhere.0 t p l), λ x. everywhere.1 (λ p l. (at p).by_flows.1 (x p l)));
      }
