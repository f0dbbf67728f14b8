-- All done sets are enabled at a place exactly if all cuts are. The cut of a done set is the maximal events of it and its front.
use Prim.Native.Nat.{ℕ, zero, suc, ◌+◌, ◌≤◌, ◌<◌}
use Rattle.std.proofs.Common.{not-suc-le-zero, lt-suc_self, inl, inr, sym, lt→ltb}
use native.Mathlib.Omega.{arith}
use Rattle.std.specs.Prelude.{Bool, not, ◌&&◌, ◌⊎◌, ◌↔◌, ◌≡◌, refl, ltb, ℤ, pos}
use Rattle.std.proofs.Math.Bool.{true, false}
use Rattle.std.proofs.Math.Logic.{⊎_elim}
use Rattle.std.proofs.Math.Path.{subst}
use Rattle.std.proofs.Math.Dec.{T, T_not, not_T, ltb→lt}
use Rattle.std.specs.Int.Signed.{le_z}
use Rattle.std.proofs.Math.Facts.{and_yes, yes_and, or_yes}
use Rattle.finite.specs.Bounded.{any, any_yes, yes_any, decide, yes_or_left, yes_or_right}
use Rattle.finite.specs.Subset.{Set}
use Rattle.finite.specs.Sum.{on, sum, over, on_yes, on_no, on_mono, sum_strict, sum_mono, sum_add, over_mono}
use Rattle.plan.specs.Net.{Net, Plan, taken_by, given_by}
use Rattle.plan.specs.Order.{Before, chain, before, Sound}
use Rattle.plan.proofs.Closure.{before_test}
use Rattle.plan.specs.Prefix.{IsPrefix, front, tokens}
use Rattle.plan.specs.Cut.{IsCoset, IsCut, preset, Covered, Executable}
use Rattle.theory.specs.Least.{taken, taken_split}
use Rattle.theory.specs.Missing.{supply}
use Rattle.theory.specs.Prefixes.{reached, front_yes, yes_front, preset_yes, yes_preset, preset_prefix}
use Rattle.theory.specs.Signs.{tokens_minus, le_minus}
use Rattle.theory.specs.Skeleton.{before_earlier}

-- ---- in a finite set with a strict order, every member is below a greatest one

module _ (n : ℕ) (R : ℕ → ℕ → Bool) (trans : (u v w : ℕ) → T (R u v) → T (R v w) → T (R u w)) (irrefl : (v : ℕ) → T (R v v) → ⊥) (Q : Set) where
  record Top (v : ℕ) : Type 0 where
    top : ℕ
    below : top < n
    member : T (Q top)
    above : (top ≡ v) ⊎ T (R v top)
    last : (y : ℕ) → y < n → T (Q y) → T (R top y) → ⊥

  rest : ℕ → ℕ
  rest v = sum n (λ y. on (R v y) 1)

  fewer : (v y : ℕ) → y < n → T (R v y) → rest y < rest v
  unfolding rest
  fewer v y l r =
      sum_strict
      n
      (λ z. on (R y z) 1)
      (λ z. on (R v z) 1)
      (λ z k. on_mono (R y z) (R v z) 1 (λ t. trans v y z r t))
      y
      l
      (omega (arith, on_no (R y y) 1 (irrefl y), on_yes (R v y) 1 r))

  climb : (k v : ℕ) → rest v < k → v < n → T (Q v) → Top v
  climb zero v h l q = absurd (not-suc-le-zero h)
  climb (suc k) v h l q =
      ⊎_elim
      (λ t.
      let y = any_yes n _ t in
      let b = and_yes (Q y.0) (R v y.0) y.2 in
      let w = climb k y.0 (omega (arith, fewer v y.0 y.1 b.1)) y.1 b.0 in
      record {
        top = w.top;
        below = w.below;
        member = w.member;
        above = inr (⊎_elim (λ e. subst (λ (z : ℕ). T (R v z)) (sym e) b.1) (λ r. trans v y.0 w.top b.1 r) w.above);
        last = w.last;
      })
      (λ t. record {
        top = v;
        below = l;
        member = q;
        above = inl refl;
        last = λ y m u r. T_not (any n (λ z. Q z && R v z)) t (yes_any n _ y m (yes_and (Q y) (R v y) u r));
      })
      (decide (any n (λ z. Q z && R v z)))

  find_top : (v : ℕ) → v < n → T (Q v) → Top v
  find_top v l q = climb (suc (rest v)) v (lt-suc_self _) l q

-- ---- cuts and done sets

-- all that a cut and the events before it take
abbrev pub taken_up_to : Net → Plan → ℕ → Set → ℕ
taken_up_to N P p C = over P.events C (taken_by N P p) + over P.events (preset P C) (taken_by N P p)

module _ (N : Net) (P : Plan) (p : ℕ) (S : Sound P) where
  joins : (u v w : ℕ) → T (before P u v) → T (before P v w) → T (before P u w)
  joins u v w s t = (before_test P u w).1 (chain ((before_test P u v).0 s) ((before_test P v w).0 t))

  strict : (v : ℕ) → T (before P v v) → ⊥
  strict v t = S.acyclic v ((before_test P v v).0 t)

  covered : (C : Set) → Covered N P p C ↔ (taken_up_to N P p C ≤ supply N P p (preset P C))
  unfolding Covered tokens supply
  covered C =
      let h = le_minus (over P.events C (taken_by N P p)) (N.opening p + over P.events (preset P C) (given_by N P p)) (over P.events (preset P C) (taken_by N P p)) in
      let e = tokens_minus (N.opening p) (over P.events (preset P C) (given_by N P p)) (over P.events (preset P C) (taken_by N P p)) in (
        λ c. h.0 (subst (λ (z : ℤ). T (le_z (pos (over P.events C (taken_by N P p))) z)) e c.le),
        λ c. record { le = subst (λ (z : ℤ). T (le_z (pos (over P.events C (taken_by N P p))) z)) (sym e) (h.1 c) },
      )

  -- a cut is part of the front of the events before it
  cut_front : (C : Set) → IsCoset P C → (v : ℕ) → T (C v) → T (front P (preset P C) v)
  cut_front C c v t =
      yes_front
      P
      (preset P C)
      v
      (record { outside = not_T (preset P C v) (λ h. let w = preset_yes P S C v h in c.unordered v w.0 t w.1 w.2); ready = λ u l b. yes_preset P S C u v t b })

  pub prefixes_cuts : ((D : Set) → IsPrefix P D → taken N P p D ≤ supply N P p D) → Executable N P p
  unfolding taken
  prefixes_cuts h =
      record { cuts = λ C c. (covered C).1 (omega (arith, h (preset P C) (preset_prefix P S C), taken_split N P p (preset P C), in_front C c.coset)) }
    where
      in_front : (C : Set) → IsCoset P C → over P.events C (taken_by N P p) ≤ over P.events (front P (preset P C)) (taken_by N P p)
      in_front C c = over_mono P.events C (front P (preset P C)) (taken_by N P p) (λ v l t. cut_front C c v t)

  module _ (D : Set) (d : IsPrefix P D) where
    U : Set
    U = reached P D

    -- the maximal events of a done set and its front
    maximal : Set
    maximal v = ltb v P.events && (U v && not (any P.events (λ w. U w && before P v w)))

    record IsMaximal (v : ℕ) : Type 0 where
      event : v < P.events
      reaches : T (U v)
      last : (w : ℕ) → w < P.events → T (U w) → Before P v w → ⊥

    maximal_yes : (v : ℕ) → T (maximal v) → IsMaximal v
    unfolding maximal
    maximal_yes v t =
        let h = and_yes (ltb v P.events) _ t in
        let k = and_yes (U v) _ h.1 in
        record {
          event = ltb→lt v P.events h.0;
          reaches = k.0;
          last = λ w l u b. T_not (any P.events (λ z. U z && before P v z)) k.1 (yes_any P.events _ w l (yes_and (U w) (before P v w) u ((before_test P v w).1 b)));
        }

    yes_maximal : (v : ℕ) → IsMaximal v → T (maximal v)
    unfolding maximal
    yes_maximal v m =
        yes_and
        (ltb v P.events)
        _
        (lt→ltb v P.events m.event)
        (yes_and
        (U v)
        _
        m.reaches
        (not_T (any P.events (λ z. U z && before P v z)) none))
      where
        none : T (any P.events (λ z. U z && before P v z)) → ⊥
        none t =
            let w = any_yes P.events _ t in
            let b = and_yes (U w.0) (before P v w.0) w.2 in
            m.last w.0 w.1 b.0 ((before_test P v w.0).0 b.1)

    -- all that is before an event reached is done
    done_before : (u v : ℕ) → Before P u v → T (U v) → T (D u)
    unfolding U
    done_before u v b t =
        ⊎_elim
        (λ k. d.closed u v b k)
        (λ f. (front_yes P D v f).ready u (before_earlier P S b) b)
        (or_yes (D v) (front P D v) t)

    -- an event of the front is maximal
    front_maximal : (v : ℕ) → v < P.events → T (front P D v) → IsMaximal v
    unfolding U
    front_maximal v l f =
        record { event = l; reaches = yes_or_right (D v) (front P D v) f; last = λ w m u b. T_not (D v) (front_yes P D v f).outside (done_before v w b u) }

    -- every event reached is maximal or before a maximal one
    under : (v : ℕ) → v < P.events → T (U v) → T (maximal v) ⊎ T (preset P maximal v)
    under v l u =
        let w = find_top P.events (before P) joins strict U v l u in
        let m : T (maximal w.top) = yes_maximal w.top (record {
          event = w.below;
          reaches = w.member;
          last = λ y k z b. w.last y k z ((before_test P w.top y).1 b);
        }) in
        ⊎_elim
        (λ e. inl (subst (λ (z : ℕ). T (maximal z)) e m))
        (λ r. inr (yes_preset P S maximal v w.top m ((before_test P v w.top).0 r)))
        w.above

    -- every event that isn't done is in the front or after an event of it
    beyond : (v : ℕ) → v < P.events → T (not (D v)) → T (front P D v) ⊎ ((w : ℕ) × (w < P.events) × T (front P D w) × Before P w v)
    beyond v l t =
        let w = find_top P.events (λ x y. before P y x) (λ x y z s r. joins z y x r s) strict (λ x. not (D x)) v l t in
        let f : T (front P D w.top) = yes_front P D w.top (record {
          outside = w.member;
          ready = λ u k b. ⊎_elim (λ y. y) (λ y. absurd (w.last u k y ((before_test P u w.top).1 b))) (decide (D u));
        }) in
        ⊎_elim
        (λ e. inl (subst (λ (z : ℕ). T (front P D z)) e f))
        (λ r. inr (w.top, w.below, f, (before_test P w.top v).0 r))
        w.above

    maximal_coset : IsCoset P maximal
    maximal_coset =
        record { events = λ v t. (maximal_yes v t).event; unordered = λ u v s t b. (maximal_yes u s).last v (maximal_yes v t).event (maximal_yes v t).reaches b }

    maximal_cut : IsCut P maximal
    unfolding U
    maximal_cut = record { coset = maximal_coset; greatest = λ E e h v t. grown E e h v t }
      where
        reachedCase : (E : Set) → IsCoset P E → ((v : ℕ) → T (maximal v) → T (E v)) → (v : ℕ) → T (E v) → T (U v) → T (maximal v)
        reachedCase E e h v t u =
            ⊎_elim
            (λ m. m)
            (λ r. let w = preset_yes P S maximal v r in absurd (e.unordered v w.0 t (h w.0 w.1) w.2))
            (under v (e.events v t) u)

        grown : (E : Set) → IsCoset P E → ((v : ℕ) → T (maximal v) → T (E v)) → (v : ℕ) → T (E v) → T (maximal v)
        grown E e h v t =
            ⊎_elim
            (λ k. reachedCase E e h v t (yes_or_left (D v) (front P D v) k))
            (λ k.
            ⊎_elim
            (λ f. reachedCase E e h v t (yes_or_right (D v) (front P D v) f))
            (λ w. absurd (e.unordered w.0 v (h w.0 (yes_maximal w.0 (front_maximal w.0 w.1 w.2))) t w.3))
            (beyond v (e.events v t) k))
            (decide (D v))

    -- what is taken up to the cut is all that the done set and its front take, and no more is given
    cut_taken : taken N P p D ≤ taken_up_to N P p maximal
    unfolding taken over U
    cut_taken =
        let t : ℕ → ℕ = taken_by N P p in
        omega (
          arith,
          sum_mono P.events (λ v. on (reached P D v) (t v)) (λ v. on (maximal v) (t v) + on (preset P maximal v) (t v)) each,
          sum_add P.events (λ v. on (maximal v) (t v)) (λ v. on (preset P maximal v) (t v)),
        )
      where
        either-on : (b c e : Bool) (x : ℕ) → (T b → T c ⊎ T e) → on b x ≤ on c x + on e x
        either-on true c e x h = ⊎_elim (λ t. omega (arith, on_yes c x t)) (λ t. omega (arith, on_yes e x t)) (h tt)
        either-on false c e x h = omega arith

        each : (v : ℕ) → v < P.events → on (reached P D v) (taken_by N P p v) ≤ on (maximal v) (taken_by N P p v) + on (preset P maximal v) (taken_by N P p v)
        each v l = either-on (reached P D v) (maximal v) (preset P maximal v) (taken_by N P p v) (under v l)

    cut_supply : supply N P p (preset P maximal) ≤ supply N P p D
    unfolding supply
    cut_supply =
        omega (arith, over_mono P.events (preset P maximal) D (given_by N P p) (λ v l t. let w = preset_yes P S maximal v t in done_before v w.0 w.2 (maximal_yes w.0 w.1).reaches))

  -- What a done set and its front lack is lacking at some cut too.
  pub some_cut : (D : Set) → IsPrefix P D → (C : Set) × IsCut P C × (taken N P p D + supply N P p (preset P C) ≤ taken_up_to N P p C + supply N P p D)
  some_cut D d = (maximal D d, maximal_cut D d, omega (arith, cut_taken D d, cut_supply D d))

  pub cuts_prefixes : Executable N P p → (D : Set) → IsPrefix P D → taken N P p D ≤ supply N P p D
  cuts_prefixes x D d = let w = some_cut D d in omega (arith, (covered w.0).0 (x.cuts w.0 w.1), w.2)
