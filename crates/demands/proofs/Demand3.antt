-- The proof of demand 3.
use Rattle.std.specs.Prelude.{ℕ, ◌<◌, List, ◌≡◌, ℤ, ◌≤ℤ◌}
use Rattle.std.proofs.Common.{arith, sym, ap, subst, ◌∙◌}
use Rattle.plan.specs.Net.{Net, Plan, Labelled}
use Rattle.plan.specs.Order.{Before, pair, chain}
use Rattle.plan.specs.Prefix.{missing, spare}
use Rattle.plan.specs.Compare.{with_more, SameAt, SamePlace}
use Rattle.theory.proofs.Comparisons.{missing_alike, missing_same}
use Rattle.theory.proofs.Spare.{spare_alike, spare_same}
use Rattle.theory.proofs.Theorems.{least_count, spare_count}
use Rattle.sheet.specs.Items.{net_of, plan_of}
use Rattle.sheet.specs.Faultless.{sound, labelled}
use Rattle.sheet.proofs.Faultless.{faultless}
use Rattle.place.specs.Bounds.{spare_from, spare_to}
use Rattle.place.specs.Place.{spare_at}
use Rattle.demands.specs.Returned.{Taken, Returned, SpareReturned, spare_is, place_is}
use Rattle.demands.proofs.Returned.{count_is}
use Rattle.demands.specs.Demand3.{SamePlan, Least, Spared, Demand3}

-- ---- the proof

same_turned : (P Q : Plan) → SamePlan P Q → SamePlan Q P
same_turned P Q e =
    record {
      events = sym e.events;
      labels = λ v l. sym (e.labels v (omega (arith, e.events)));
      pairs = sym e.pairs;
      earlier = λ i l. sym (e.earlier i (omega (arith, e.pairs)));
      later = λ i l. sym (e.later i (omega (arith, e.pairs)));
    }

same_before : (P Q : Plan) → SamePlan P Q → (u v : ℕ) → Before P u v → Before Q u v
same_before P Q e u v (pair i l) =
    subst
    (λ (a : ℕ). Before Q a (P.later i))
    (sym (e.earlier i l))
    (subst (λ (b : ℕ). Before Q (Q.earlier i) b) (sym (e.later i l)) (pair i (omega (arith, e.pairs))))
same_before P Q e u v (chain b c) = chain (same_before P Q e _ _ b) (same_before P Q e _ _ c)

-- a net with the same numbers at the place p as another sheet's
module _ (N : Net) (p : ℕ) (s : List ℕ) (taken : Taken s) (at : SameAt p N (net_of s)) where
  named : Labelled N (plan_of s)
  named = record { named = λ v l. omega (arith, at.transitions, (labelled s (faultless s taken)).named v l) }

  -- with that sheet's plan it has the same counts there,
  missing_there : missing N (plan_of s) p ≡ missing (net_of s) (plan_of s) p
  missing_there = missing_same N (net_of s) (plan_of s) p named at

  spare_there : spare N (plan_of s) p ≡ spare (net_of s) (plan_of s) p
  spare_there = spare_same N (net_of s) (plan_of s) p named at

  -- and with any plan that has the same events, labels and pairs.
  place_there : (P : Plan) → SamePlan P (plan_of s) → SamePlace N P p (net_of s) (plan_of s) p
  place_there P same =
      let Q = plan_of s in
      let label : (v : ℕ) → v < P.events → Q.label v < N.transitions = λ v l. named.named v (omega (arith, same.events)) in
      record {
        weights = record {
          events = same.events;
          takes = λ v l. ap (λ (t : ℕ). N.takes t p) (same.labels v l) ∙ at.takes (Q.label v) (label v l);
          gives = λ v l. ap (λ (t : ℕ). N.gives t p) (same.labels v l) ∙ at.gives (Q.label v) (label v l);
        };
        order = λ u v. (same_before P Q same u v, same_before Q P (same_turned P Q same) u v);
        opening = at.opening;
      }

module _ (s : List ℕ) (taken : Taken s) (p : ℕ) where
  abbrev N : Net
  N = net_of s

  abbrev P : Plan
  P = plan_of s

  least_of : (m : ℕ) → Returned s p m → Least s p m
  least_of m counted =
      let e = count_is s p m counted in
      let least = least_count N P p (sound s (faultless s taken)) in
      record {
        enough = λ k h. least.enough k (omega (arith, e));
        too_few = λ k h. least.too_few k (omega (arith, e));
        overrun_reached = (least.overrun_reached.0, least.overrun_reached.1, least.overrun_reached.2 ∙ sym e);
        not_undercut = λ x v. omega (arith, e, least.not_undercut x v);
        more_tokens = λ s' k m' t c at same.
            let there = missing_alike (with_more N p k) P p (net_of s') (plan_of s') p (place_there (with_more N p k) p s' t at P same) in
            omega (arith, count_is s' p m' c, there, least.more_tokens k, e);
        more_order = λ s' m' t c at more. omega (arith, count_is s' p m' c, missing_there N p s' t at, least.more_order (plan_of s') more, e);
        other_places = λ s' m' t c at same.
            omega (arith, count_is s' p m' c, missing_alike N P p (net_of s') (plan_of s') p (place_there N p s' t at P same), e);
        any_tokens = λ k. omega (arith, least.more_tokens k, e);
        any_order = λ Q more. omega (arith, least.more_order Q more, e);
      }

  spared_of : (z : ℤ) → SpareReturned s p z → Spared s p z
  spared_of z given = subst (Spared s p) (sym (spare_is s p z given)) due
    where
      due : Spared s p (spare_at s p)
      due =
          let known = faultless s taken in
          let count = spare_count N P p (sound s known) in
          let place = place_is s p z given in
          record {
            runs_from = count.runs_from;
            shares_reached = count.shares_reached;
            not_undercut = count.not_undercut;
            at_least = spare_from s known p place;
            at_most = spare_to s known p place;
            missing_is = λ m returned. count_is s p m returned ∙ count.missing_is;
            more_tokens = λ s' k z' t c at same.
                let there = spare_alike (with_more N p k) P p (net_of s') (plan_of s') p (place_there (with_more N p k) p s' t at P same) in
                spare_is s' p z' c ∙ sym there ∙ count.more_tokens k;
            more_order = λ s' z' t c at more.
                subst (λ (y : ℤ). spare_at s p ≤ℤ y) (spare_there N p s' t at ∙ sym (spare_is s' p z' c)) (count.more_order (plan_of s') more);
            other_places = λ s' z' t c at same.
                spare_is s' p z' c ∙ sym (spare_alike N P p (net_of s') (plan_of s') p (place_there N p s' t at P same));
            any_tokens = count.more_tokens;
            any_order = count.more_order;
          }

pub demand_3 : Demand3
demand_3 s taken p = record { counts = least_of s taken p; spares = spared_of s taken p }
