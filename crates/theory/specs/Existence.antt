-- A flow whose shares sum to at most M exists as soon as no stage asks for more than M.
-- By induction on the arcs: the last arc gets the greatest shortfall of the stages that it would break, and the union and the
-- intersection of such a stage with one that the arc burdens show that this is not too much. No algorithm is involved.
use Prim.Native.Nat.{ℕ, zero, suc, ◌+◌, ◌-◌, ◌≤◌, ◌<◌, max}
use Rattle.std.proofs.Common.{not-suc-le-zero, lt-suc_self, sym, ap, ap₂, ◌∙◌, T_not, leb→le, ltb→lt, nltb→le, lt-ltb, eq-eqb, ne_eqb}
use Rattle.std.proofs.Math.Nat.{le_step}
use native.Mathlib.Omega.{arith}
use Rattle.std.proofs.Math.Bool.{Bool, not}
use Rattle.std.specs.Prelude.{true, false, cond, ◌&&◌, ◌||◌, ◌≡◌, eqb, leb}
use Rattle.std.proofs.Math.Logic.{⊎_elim}
use Rattle.std.proofs.Math.Path.{refl, subst}
use Rattle.std.proofs.Math.Dec.{T, ltb, nleb→lt}
use Rattle.std.proofs.Math.Facts.{and_yes, yes_and, and_no}
use Rattle.finite.specs.Bounded.{decide, below_suc, yes_or_left, yes_or_right}
use Rattle.finite.specs.Subset.{Set, Within, greatest, greatest_bounds, greatest_attained}
use Rattle.finite.specs.Sum.{on, sum, at_end, sum_ext, sum_add, on_yes, on_no, on_le}
use Rattle.theory.specs.Stage.{Stage, stage, yes_stage, stage_yes, both, either, pick, picked, picked_modular, picked_done, picked_top, stage_both, stage_either, within_both, within_either}

-- What a flow is to meet at the events below n: v gets `top v` at least, with `extra v` from elsewhere, and passes on at most what
-- it gets with `given v`, less `used_up v`.
pub record Demand : Type 0 where
  pub top : ℕ → ℕ
  pub extra : ℕ → ℕ
  pub used_up : ℕ → ℕ
  pub given : ℕ → ℕ

-- Numbers x on the arcs and shares s that meet it, with shares of at most M in all.
pub record Meets (n m : ℕ) (a b : ℕ → ℕ) (used : Set) (d : Demand) (M : ℕ) (x s : ℕ → ℕ) : Type 0 where
  pub tops : (v : ℕ) → v < n → d.top v ≤ s v + at_end m b x v + d.extra v
  pub bottoms : (v : ℕ) → v < n → at_end m a x v + d.used_up v ≤ s v + at_end m b x v + d.given v
  pub unused : (i : ℕ) → i < m → T (not (used i)) → x i ≡ 0
  pub total : sum n s ≤ M

-- No stage asks for more than M.
pub record Fits (n m : ℕ) (a b : ℕ → ℕ) (used : Set) (d : Demand) (M : ℕ) : Type 0 where
  pub fits : (D U : Set) → Within n D → Within n U → Stage m a b used D U → picked n D U d.used_up d.top ≤ M + picked n D U d.given d.extra

-- ---- no arc is left

-- the least share s with t ≤ s + e and u ≤ s + g makes up what is asked at an event that is done, or at the top
at_event : (t e u g : ℕ) (p q : Bool) → p ≡ (ltb g u && leb (t - e) (u - g)) → q ≡ ltb e t → pick p (p || q) u t ≡ max (t - e) (u - g) + pick p (p || q) g e
at_event t e u g true q h k =
    let y = and_yes (ltb g u) (leb (t - e) (u - g)) (subst T h tt) in
    omega (arith, ltb→lt g u y.0, leb→le (t - e) (u - g) y.1)
at_event t e u g false true h k =
    let top = ltb→lt e t (subst T k tt) in
    ⊎_elim
    (λ y. omega (arith, nltb→le g u y))
    (λ y. omega (arith, nleb→lt (t - e) (u - g) y))
    (and_no (ltb g u) (leb (t - e) (u - g)) (subst (λ (z : Bool). T (not z)) h tt))
at_event t e u g false false h k =
    let top = nltb→le e t (subst (λ (z : Bool). T (not z)) k tt) in
    ⊎_elim
    (λ y. omega (arith, nltb→le g u y))
    (λ y. omega (arith, nleb→lt (t - e) (u - g) y))
    (and_no (ltb g u) (leb (t - e) (u - g)) (subst (λ (z : Bool). T (not z)) h tt))

module _ (n : ℕ) (d : Demand) where
  least : ℕ → ℕ
  least v = max (d.top v - d.extra v) (d.used_up v - d.given v)

  low : ℕ → Bool
  low v = ltb (d.given v) (d.used_up v) && leb (d.top v - d.extra v) (d.used_up v - d.given v)

  -- the done and the top events that ask for all of the least shares
  Low : Set
  Low v = ltb v n && low v

  High : Set
  High v = ltb v n && (low v || ltb (d.extra v) (d.top v))

  asked : (v : ℕ) → v < n → pick (Low v) (High v) (d.used_up v) (d.top v) ≡ least v + pick (Low v) (High v) (d.given v) (d.extra v)
  unfolding least Low High low
  asked v l =
      let high : Bool → Bool = λ c. c && (low v || ltb (d.extra v) (d.top v)) in
      subst
      (λ (c : Bool). pick (c && low v) (high c) (d.used_up v) (d.top v) ≡ least v + pick (c && low v) (high c) (d.given v) (d.extra v))
      (sym (lt-ltb v n l))
      (at_event (d.top v) (d.extra v) (d.used_up v) (d.given v) (low v) (ltb (d.extra v) (d.top v)) refl refl)

  base : (a b : ℕ → ℕ) (used : Set) (M : ℕ) → Fits n 0 a b used d M → Meets n 0 a b used d M (λ i. 0) least
  unfolding Low High picked at_end sum least
  base a b used M f =
      record {
        tops = λ v l. omega arith;
        bottoms = λ v l. omega arith;
        unused = λ i l t. refl;
        total = omega (arith, f.fits Low High low_within high_within whole, sum_ext n _ (λ v. least v + kept v) asked, sum_add n least kept);
      }
    where
      kept : ℕ → ℕ
      kept v = pick (Low v) (High v) (d.given v) (d.extra v)

      low_within : Within n Low
      low_within = record { below = λ v t. ltb→lt v n (and_yes (ltb v n) _ t).0 }

      high_within : Within n High
      high_within = record { below = λ v t. ltb→lt v n (and_yes (ltb v n) _ t).0 }

      whole : Stage 0 a b used Low High
      whole = record {
        inside = λ v t. yes_and (ltb v n) _ (and_yes (ltb v n) (low v) t).0 (yes_or_left (low v) _ (and_yes (ltb v n) (low v) t).1);
        into = λ i l. absurd (not-suc-le-zero l);
      }

-- ---- one arc more: it carries k

abbrev carried : Demand → ℕ → ℕ → ℕ → Demand
carried d from to k =
    record { top = d.top; extra = λ v. d.extra v + on (eqb to v) k; used_up = λ v. d.used_up v + on (eqb from v) k; given = λ v. d.given v + on (eqb to v) k }

-- x with k at m
abbrev put : ℕ → ℕ → (ℕ → ℕ) → ℕ → ℕ
put m k x i = cond (eqb i m) k (x i)

put_same : (m k : ℕ) (x : ℕ → ℕ) → put m k x m ≡ k
put_same m k x = ap (λ (t : Bool). cond t k (x m)) (eq-eqb m m refl)

put_other : (m k : ℕ) (x : ℕ → ℕ) (i : ℕ) → i < m → put m k x i ≡ x i
put_other m k x i l = ap (λ (t : Bool). cond t k (x i)) (ne_eqb i m (λ e. omega arith))

put_at_end : (m k : ℕ) (e x : ℕ → ℕ) (v : ℕ) → at_end (suc m) e (put m k x) v ≡ at_end m e x v + on (eqb (e m) v) k
unfolding at_end sum
put_at_end m k e x v =
    ap₂
    ◌+◌
    (sum_ext m _ _ (λ i l. ap (on (eqb (e i) v)) (put_other m k x i l)))
    (ap (on (eqb (e m) v)) (put_same m k x))

module _ (n m : ℕ) (a b : ℕ → ℕ) (used : Set) (d : Demand) (M : ℕ) where
  -- a flow on the first m arcs, with k on the next one
  extend : (k : ℕ) → (T (not (used m)) → k ≡ 0) → (x s : ℕ → ℕ) → Meets n m a b used (carried d (a m) (b m) k) M x s → Meets n (suc m) a b used d M (put m k x) s
  extend k none x s f =
      record {
        tops = λ v l. omega (arith, f.tops v l, put_at_end m k b x v);
        bottoms = λ v l. omega (arith, f.bottoms v l, put_at_end m k b x v, put_at_end m k a x v);
        unused = λ i l t.
            below_suc
            m
            i
            l
            (λ l₁. put_other m k x i l₁ ∙ f.unused i l₁ t)
            (λ e. subst (λ (j : ℕ). put m k x j ≡ 0) (sym e) (put_same m k x ∙ none (subst (λ (j : ℕ). T (not (used j))) e t)));
        total = f.total;
      }

  -- what a stage asks, and what M and the others bring it
  left : Set → Set → ℕ
  left D U = picked n D U d.used_up d.top

  right : Set → Set → ℕ
  right D U = M + picked n D U d.given d.extra

  -- the shortfall of a stage of the first m arcs that the next arc breaks
  short : Set → Set → ℕ
  short D U = on (stage n m a b used D U && (U (b m) && not (D (a m)))) (left D U - right D U)

  shortfall : ℕ
  shortfall = greatest n (λ D. greatest n (λ U. short D U))

  -- what the arc carries
  load : ℕ
  load = on (used m) shortfall

  module _ (a-named : a m < n) (b-named : b m < n) (f : Fits n (suc m) a b used d M) where
    -- a stage that the arc doesn't break
    unbroken : (D U : Set) → Within n D → Within n U → Stage m a b used D U → (T (used m) → T (U (b m)) → T (D (a m))) → left D U ≤ right D U
    unfolding left right
    unbroken D U w z s h =
        f.fits D U w z (record {
          inside = s.inside;
          into = λ i l t u. below_suc m i l (λ l₁. s.into i l₁ t u)
              (λ e. subst (λ (j : ℕ). T (D (a j))) (sym e) (h (subst (λ (j : ℕ). T (used j)) e t) (subst (λ (j : ℕ). T (U (b j))) e u)));
        })

    broken : (D U : Set) → Within n D → Within n U → Stage m a b used D U → T (U (b m)) → T (not (D (a m))) → left D U ≤ right D U + shortfall
    unfolding short shortfall
    broken D U w z s u t =
        let passes = yes_and (stage n m a b used D U) _ (yes_stage n m a b used D U s) (yes_and (U (b m)) (not (D (a m))) u t) in
        omega (
          arith,
          greatest_bounds n (λ E. greatest n (λ W. short E W)) D w,
          greatest_bounds n (λ W. short D W) U z,
          on_yes (stage n m a b used D U && (U (b m) && not (D (a m)))) (left D U - right D U) passes,
        )

    -- the union and the intersection of a broken and a burdened stage are unbroken
    crossed : (D U E W : Set) → Within n D → Within n U → Within n E → Within n W → Stage m a b used D U → Stage m a b used E W
        → T (not (W (b m))) → T (E (a m)) → left D U + left E W ≤ right D U + right E W
    unfolding left right
    crossed D U E W wd wu we ww s r t u =
        omega (
          arith,
          unbroken (both D E) (both U W) (within_both n D E wd) (within_both n U W wu) (stage_both m a b used D U E W s r) (λ _ h. absurd (T_not (W (b m)) t (and_yes (U (b m)) (W (b m)) h).1)),
          unbroken (either D E) (either U W) (within_either n D E wd we) (within_either n U W wu ww) (stage_either m a b used D U E W s r) (λ _ h. yes_or_right (D (a m)) (E (a m)) u),
          picked_modular n D U E W d.used_up d.top s.inside r.inside,
          picked_modular n D U E W d.given d.extra s.inside r.inside,
        )

    -- a stage that the arc burdens bears the shortfall
    burdened : (E W : Set) → Within n E → Within n W → Stage m a b used E W → T (E (a m)) → T (not (W (b m))) → left E W + shortfall ≤ right E W
    unfolding short shortfall
    burdened E W we ww r u t = ⊎_elim (λ h. worst h) (λ h. none h) (decide test)
      where
        outer : (D : Set) × Within n D × (greatest n (λ U. short D U) ≡ shortfall)
        outer = greatest_attained n (λ D. greatest n (λ U. short D U))

        D : Set
        D = outer.0

        inner : (U : Set) × Within n U × (short D U ≡ greatest n (λ U. short D U))
        inner = greatest_attained n (λ U. short D U)

        U : Set
        U = inner.0

        test : Bool
        test = stage n m a b used D U && (U (b m) && not (D (a m)))

        none : T (not test) → left E W + shortfall ≤ right E W
        none h =
            omega (
              arith,
              on_no test (left D U - right D U) (T_not test h),
              inner.2,
              outer.2,
              unbroken E W we ww r (λ _ k. absurd (T_not (W (b m)) t k)),
            )

        worst : T test → left E W + shortfall ≤ right E W
        worst h =
            omega (
              arith,
              on_yes test (left D U - right D U) h,
              inner.2,
              outer.2,
              unbroken E W we ww r (λ _ k. absurd (T_not (W (b m)) t k)),
              crossed D U E W outer.1 inner.1 we ww (stage_yes n m a b used D U outer.1 (and_yes (stage n m a b used D U) _ h).0) r t u,
            )

    -- with its load on the next arc, the first m arcs fit
    balance : (D U : Set) → Within n D → Within n U → Stage m a b used D U → left D U + on (D (a m)) load ≤ right D U + on (U (b m)) load
    unfolding load
    balance D U w z s = ⊎_elim carries idle (decide (used m))
      where
        idle : T (not (used m)) → left D U + on (D (a m)) load ≤ right D U + on (U (b m)) load
        idle t =
            omega (
              arith,
              on_no (used m) shortfall (T_not (used m) t),
              on_le (D (a m)) load,
              unbroken D U w z s (λ g. absurd (T_not (used m) t g)),
            )

        kept : (T (U (b m)) → T (D (a m))) → left D U ≤ right D U
        kept h = unbroken D U w z s (λ g. h)

        carries : T (used m) → left D U + on (D (a m)) load ≤ right D U + on (U (b m)) load
        carries t =
            let loaded = on_yes (used m) shortfall t in
            ⊎_elim
            (λ da.
            ⊎_elim
            (λ ub. omega (arith, kept (λ _. da), on_yes (D (a m)) load da, on_yes (U (b m)) load ub))
            (λ nub. omega (arith, loaded, burdened D U w z s da nub, on_yes (D (a m)) load da))
            (decide (U (b m))))
            (λ nda.
            ⊎_elim
            (λ ub. omega (arith, loaded, broken D U w z s ub nda, on_no (D (a m)) load (T_not (D (a m)) nda), on_yes (U (b m)) load ub))
            (λ nub. omega (arith, kept (λ k. absurd (T_not (U (b m)) nub k)), on_no (D (a m)) load (T_not (D (a m)) nda)))
            (decide (U (b m))))
            (decide (D (a m)))

    shed : Fits n m a b used (carried d (a m) (b m) load) M
    unfolding left right
    shed =
        record {
          fits = λ D U w z s.
              omega (
                arith,
                balance D U w z s,
                picked_done n D U d.used_up d.top (a m) load a-named,
                picked_top n D U d.given d.extra (b m) load b-named s.inside,
              );
        }

-- a pair that isn't used carries nothing
load_unused : (n m : ℕ) (a b : ℕ → ℕ) (used : Set) (d : Demand) (M : ℕ) → T (not (used m)) → load n m a b used d M ≡ 0
unfolding load
load_unused n m a b used d M t = on_no (used m) (shortfall n m a b used d M) (T_not (used m) t)

pub flow_exists : (n m : ℕ) (a b : ℕ → ℕ) (used : Set) (d : Demand) (M : ℕ) → ((i : ℕ) → i < m → a i < n) → ((i : ℕ) → i < m → b i < n)
    → Fits n m a b used d M → (x : ℕ → ℕ) × (s : ℕ → ℕ) × Meets n m a b used d M x s
flow_exists n zero a b used d M ha hb f = (λ i. 0, least n d, base n d a b used M f)
flow_exists n (suc m) a b used d M ha hb f =
    let k : ℕ = load n m a b used d M in
    let w = flow_exists n m a b used (carried d (a m) (b m) k) M (λ i l. ha i (le_step l)) (λ i l. hb i (le_step l)) (shed n m a b used d M (ha m (lt-suc_self m)) (hb m (lt-suc_self m)) f) in
    (put m k w.0, w.1, extend n m a b used d M k (load_unused n m a b used d M) w.0 w.1 w.2)
