-- The smallest done set of the greatest lack is contained in all the others.
use Rattle.std.specs.Prelude.{ℕ, suc, ◌+◌, ◌-◌, ◌≤◌, ◌<◌, Bool, not, ◌&&◌, ◌≡◌, eqb}
use native.Mathlib.Omega.{arith}
use Rattle.std.proofs.Math.Logic.{⊎_elim}
use Rattle.std.proofs.Common.{sym, ap, subst, T_not}
use Rattle.std.proofs.Math.Dec.{T, eqb_refl, eqb→eq}
use Rattle.std.proofs.Math.Facts.{and_yes, yes_and}
use Rattle.finite.specs.Bounded.{decide, imp_yes, yes_imp}
use Rattle.finite.specs.Subset.{Set, Within, greatest, every_yes, yes_every, greatest_bounds, greatest_attained, set_ext}
use Rattle.finite.specs.Sum.{on, sum, over, on_yes, on_no, on_mono, sum_strict, over_mono, over_all}
use Rattle.plan.specs.Net.{Net, Plan, taken_by, given_by}
use Rattle.plan.specs.Order.{Sound, skeleton}
use Rattle.plan.specs.Prefix.{prefix, lack, above0, missing, smallest}
use Rattle.theory.specs.Least.{taken}
use Rattle.theory.specs.Missing.{supply, lack_above0, missing_bounds, missing_attained}
use Rattle.theory.specs.Prefixes.{prefix_is, within, reached, prefix_stage, stage_prefix, stage_reached}
use Rattle.theory.specs.Stage.{Stage, both, either, picked_modular, picked_same, picked_only, stage_both, stage_either, within_both, within_either}
use Rattle.theory.specs.Smallest.{Tight, positive, IsSmallest}

module _ (N : Net) (P : Plan) (p : ℕ) (S : Sound P) where
  module _ (D E : Set) (d : Tight N P p S D) (e : Tight N P p S E) where
    U : Set
    U = reached P D

    W : Set
    W = reached P E

    first : Stage P.pairs P.earlier P.later (skeleton P) D U
    unfolding U
    first = prefix_stage P S D (skeleton P) d.prefixed

    second : Stage P.pairs P.earlier P.later (skeleton P) E W
    unfolding W
    second = prefix_stage P S E (skeleton P) e.prefixed

    met : Stage P.pairs P.earlier P.later (skeleton P) (both D E) (both U W)
    met = stage_both P.pairs P.earlier P.later (skeleton P) D U E W first second

    joined : Stage P.pairs P.earlier P.later (skeleton P) (either D E) (either U W)
    joined = stage_either P.pairs P.earlier P.later (skeleton P) D U E W first second

    met_within : Within P.events (both D E)
    met_within = within_both P.events D E (within P D d.prefixed)

    joined_within : Within P.events (either D E)
    joined_within = within_either P.events D E (within P D d.prefixed) (within P E e.prefixed)

    takes_add : taken N P p D + taken N P p E ≤ taken N P p (both D E) + taken N P p (either D E)
    unfolding taken U W
    takes_add =
        omega (
          arith,
          picked_modular P.events D U E W (taken_by N P p) (taken_by N P p) first.inside second.inside,
          picked_same P.events D U (taken_by N P p) first.inside,
          picked_same P.events E W (taken_by N P p) second.inside,
          picked_same P.events (both D E) (both U W) (taken_by N P p) met.inside,
          picked_same P.events (either D E) (either U W) (taken_by N P p) joined.inside,
          over_mono P.events (both U W) (reached P (both D E)) (taken_by N P p) (λ v l u. stage_reached P S (both D E) (both U W) met_within met v u),
          over_mono P.events (either U W) (reached P (either D E)) (taken_by N P p) (λ v l u. stage_reached P S (either D E) (either U W) joined_within joined v u),
        )

    gives_add : supply N P p D + supply N P p E ≡ supply N P p (both D E) + supply N P p (either D E)
    unfolding supply
    gives_add =
        omega (
          arith,
          picked_modular P.events D U E W (given_by N P p) (λ v. 0) first.inside second.inside,
          picked_only P.events D U (given_by N P p),
          picked_only P.events E W (given_by N P p),
          picked_only P.events (both D E) (both U W) (given_by N P p),
          picked_only P.events (either D E) (either U W) (given_by N P p),
        )

    -- what two such sets have in common is one too
    both_tight : Tight N P p S (both D E)
    both_tight =
        let b = stage_prefix P S (both D E) (both U W) met_within met in
        let o = stage_prefix P S (either D E) (either U W) joined_within joined in
        record {
          prefixed = b;
          full = omega (arith, takes_add, gives_add, d.full, e.full, missing_bounds N P p S (both D E) b, missing_bounds N P p S (either D E) o);
        }

  -- the test in the definition of the smallest set
  test : Set → Bool
  test D = prefix P D && eqb (above0 (lack N P p D)) (missing N P p)

  test_tight : 0 < missing N P p → (D : Set) → Within P.events D → T (test D) → Tight N P p S D
  unfolding test
  test_tight short D w t =
      let h = and_yes (prefix P D) (eqb (above0 (lack N P p D)) (missing N P p)) t in
      record { prefixed = (prefix_is P D S w).0 h.0; full = omega (arith, eqb→eq (above0 (lack N P p D)) (missing N P p) h.1, lack_above0 N P p D) }

  tight_test : (D : Set) → Tight N P p S D → T (test D)
  unfolding test
  tight_test D d =
      let w = within P D d.prefixed in
      let e : above0 (lack N P p D) ≡ missing N P p = omega (arith, lack_above0 N P p D, d.full) in
      yes_and (prefix P D) _ ((prefix_is P D S w).1 d.prefixed) (subst (λ (m : ℕ). T (eqb (above0 (lack N P p D)) m)) e (eqb_refl (above0 (lack N P p D))))

  -- the fewer events, the more a tight set is worth
  size : Set → ℕ
  size D = over P.events D (λ v. 1)

  most : ℕ
  most = sum P.events (λ v. 1)

  worth : Set → ℕ
  worth D = on (test D) (suc most - size D)

  module _ (short : 0 < missing N P p) where
    some_tight : (D : Set) × Tight N P p S D
    some_tight =
        let w = missing_attained N P p S in
        (w.0, record { prefixed = w.1; full = omega (arith, w.2) })

    best : (D : Set) × Within P.events D × (worth D ≡ greatest P.events worth)
    best = greatest_attained P.events worth

    Least : Set
    Least = best.0

    worth_tight : (D : Set) → Tight N P p S D → worth D ≡ suc most - size D
    unfolding worth
    worth_tight D d = on_yes (test D) (suc most - size D) (tight_test D d)

    small : (D : Set) → size D ≤ most
    unfolding size most
    small D = over_all P.events D (λ v. 1)

    least_tight : Tight N P p S Least
    unfolding Least worth
    least_tight =
        let w = some_tight in
        ⊎_elim
        (λ t. test_tight short best.0 best.1 t)
        (λ t.
        let none = on_no (test best.0) (suc most - size best.0) (T_not (test best.0) t) in
        let beaten : ⊥ = omega (arith, greatest_bounds P.events worth w.0 (within P w.0 w.1.prefixed), worth_tight w.0 w.1, small w.0, best.2, none) in
        absurd beaten)
        (decide (test best.0))

    -- the tight set of the fewest events is contained in every other
    least_inside : (E : Set) → Tight N P p S E → (v : ℕ) → T (Least v) → T (E v)
    unfolding Least size over
    least_inside E e v t = ⊎_elim (λ y. y) (λ y. absurd (fewer y)) (decide (E v))
      where
        tight : Tight N P p S (both Least E)
        tight = both_tight Least E least_tight e

        fewer : T (not (E v)) → ⊥
        fewer y =
            omega (
              arith,
              greatest_bounds P.events worth (both Least E) (within P (both Least E) tight.prefixed),
              best.2,
              worth_tight (both Least E) tight,
              worth_tight Least least_tight,
              small Least,
              small (both Least E),
              sum_strict P.events (λ w. on (Least w && E w) 1) (λ w. on (Least w) 1) part v (best.1.below v t) (omega (arith, left_out y, on_yes (Least v) 1 t)),
            )
          where
            part : (w : ℕ) → w < P.events → on (Least w && E w) 1 ≤ on (Least w) 1
            part w l = on_mono (Least w && E w) (Least w) 1 (λ h. (and_yes (Least w) (E w) h).0)

            left_out : T (not (E v)) → on (Least v && E v) 1 ≡ 0
            left_out z = on_no (Least v && E v) 1 (λ h. T_not (E v) z (and_yes (Least v) (E v) h).1)

    -- it is what they all have in common
    least_is : smallest N P p ≡ Least
    unfolding smallest Least test
    least_is =
        set_ext
        (smallest N P p)
        Least
        (λ v t. imp_yes (test Least) (Least v) (every_yes P.events _ t Least best.1) (tight_test Least least_tight))
        (λ v t. yes_every P.events _ (λ D w. yes_imp (test D) (D v) (λ h. least_inside D (test_tight short D w h) v t)))

pub smallest_is : (N : Net) (P : Plan) (p : ℕ) → Sound P → 0 < missing N P p → IsSmallest N P p (smallest N P p)
smallest_is N P p S short =
    subst
    (IsSmallest N P p)
    (sym (least_is N P p S short))
    (record {
      prefixed = (least_tight N P p S short).prefixed;
      lacks = positive _ (missing N P p) (omega (arith, lack_above0 N P p (Least N P p S short), (least_tight N P p S short).full)) short;
      least = λ E e l v t. least_inside N P p S short E (record { prefixed = e; full = omega (arith, lack_above0 N P p E, ap above0 l) }) v t;
    })
