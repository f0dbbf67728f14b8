-- The test of "before" passes exactly if one event is before the other, and that of independence exactly if two are independent, in every plan.
use Prim.Native.Nat.{ℕ, zero, suc, ◌≤◌, ◌<◌}
use Rattle.std.proofs.Common.{le_refl, le_of_lt, not-suc-le-zero, sym, eqb→eq}
use Rattle.std.proofs.Math.Bool.{Bool, not}
use Rattle.std.specs.Prelude.{◌&&◌, ◌||◌, ◌⊎◌, ◌↔◌, ◌≡◌, eqb}
use Rattle.std.proofs.Math.Logic.{inl, inr, ⊎_elim}
use Rattle.std.proofs.Math.Path.{refl, subst}
use Rattle.std.proofs.Math.Dec.{T, T_not, not_T, eqb_refl}
use Rattle.std.proofs.Math.Facts.{and_yes, yes_and, or_yes, eqb_no}
use Rattle.finite.specs.Bounded.{yes_or_left, yes_or_right, below_suc, same}
use Rattle.plan.specs.Net.{Plan}
use Rattle.plan.specs.Order.{Before, pair, chain, before, before_by, Independent, independent}

module _ (P : Plan) where
  -- the pair k joins u to v: u reaches its earlier end and its later end reaches v, by the pairs below k
  Joined : ℕ → ℕ → ℕ → Type 0
  Joined k u v = ((u ≡ P.earlier k) ⊎ T (before_by P k u (P.earlier k))) × ((v ≡ P.later k) ⊎ T (before_by P k (P.later k) v))

  -- one step of the test, as a fact
  step_yes : (k u v : ℕ) → T (before_by P (suc k) u v) → T (before_by P k u v) ⊎ Joined k u v
  unfolding before_by Joined
  step_yes k u v t =
      ⊎_elim
      inl
      (λ j.
      let both = and_yes (eqb u (P.earlier k) || before_by P k u (P.earlier k)) (eqb v (P.later k) || before_by P k (P.later k) v) j in
      inr (
        ⊎_elim (λ e. inl (eqb→eq u (P.earlier k) e)) inr (or_yes (eqb u (P.earlier k)) (before_by P k u (P.earlier k)) both.0),
        ⊎_elim (λ e. inl (eqb→eq v (P.later k) e)) inr (or_yes (eqb v (P.later k)) (before_by P k (P.later k) v) both.1),
      ))
      (or_yes (before_by P k u v) _ t)

  yes_old : (k u v : ℕ) → T (before_by P k u v) → T (before_by P (suc k) u v)
  unfolding before_by
  yes_old k u v t = yes_or_left (before_by P k u v) _ t

  yes_joined : (k u v : ℕ) → Joined k u v → T (before_by P (suc k) u v)
  unfolding before_by Joined
  yes_joined k u v j =
      yes_or_right
      (before_by P k u v)
      _
      (yes_and
      (eqb u (P.earlier k) || before_by P k u (P.earlier k))
      (eqb v (P.later k) || before_by P k (P.later k) v)
      (⊎_elim
      (λ e. yes_or_left (eqb u (P.earlier k)) _ (subst (λ (w : ℕ). T (eqb u w)) e (eqb_refl u)))
      (λ t. yes_or_right (eqb u (P.earlier k)) _ t)
      j.0)
      (⊎_elim
      (λ e. yes_or_left (eqb v (P.later k)) _ (subst (λ (w : ℕ). T (eqb v w)) e (eqb_refl v)))
      (λ t. yes_or_right (eqb v (P.later k)) _ t)
      j.1))

  sound : (k : ℕ) → k ≤ P.pairs → (u v : ℕ) → T (before_by P k u v) → Before P u v
  unfolding before_by Joined
  sound zero h u v t = absurd t
  sound (suc k) h u v t =
      ⊎_elim
      (λ old. sound k (le_of_lt h) u v old)
      (λ j.
      let from : Before P u (P.later k) =
      ⊎_elim (λ e. subst (λ (w : ℕ). Before P w (P.later k)) (sym e) (pair k h)) (λ b. chain (sound k (le_of_lt h) u (P.earlier k) b) (pair k h)) j.0 in
      ⊎_elim (λ e. subst (λ (w : ℕ). Before P u w) (sym e) from) (λ b. chain from (sound k (le_of_lt h) (P.later k) v b)) j.1)
      (step_yes k u v t)

  transitive : (k u v w : ℕ) → T (before_by P k u v) → T (before_by P k v w) → T (before_by P k u w)
  unfolding before_by Joined
  transitive zero u v w s t = absurd s
  transitive (suc k) u v w s t =
      ⊎_elim
      (λ s₁.
      ⊎_elim
      (λ t₁. yes_old k u w (transitive k u v w s₁ t₁))
      (λ j.
      yes_joined
      k
      u
      w (
        inr (⊎_elim (λ e. subst (λ (x : ℕ). T (before_by P k u x)) e s₁) (λ b. transitive k u v (P.earlier k) s₁ b) j.0),
        j.1,
      ))
      (step_yes k v w t))
      (λ i.
      ⊎_elim
      (λ t₁.
      yes_joined
      k
      u
      w (
        i.0,
        inr (⊎_elim (λ e. subst (λ (x : ℕ). T (before_by P k x w)) e t₁) (λ b. transitive k (P.later k) v w b t₁) i.1),
      ))
      (λ j. yes_joined k u w (i.0, j.1))
      (step_yes k v w t))
      (step_yes k u v s)

  newest : (k : ℕ) → T (before_by P (suc k) (P.earlier k) (P.later k))
  unfolding Joined
  newest k = yes_joined k (P.earlier k) (P.later k) (inl refl, inl refl)

  has_pair : (k i : ℕ) → i < k → T (before_by P k (P.earlier i) (P.later i))
  has_pair zero i h = absurd (not-suc-le-zero h)
  has_pair (suc k) i h =
      below_suc
      k
      i
      h
      (λ l. yes_old k (P.earlier i) (P.later i) (has_pair k i l))
      (λ e. subst (λ (j : ℕ). T (before_by P (suc k) (P.earlier j) (P.later j))) (sym e) (newest k))

  complete : {u v : ℕ} → Before P u v → T (before_by P P.pairs u v)
  complete (pair i h) = has_pair P.pairs i h
  complete (chain {u} {v} {w} b c) = transitive P.pairs u v w (complete b) (complete c)

  -- The test passes exactly if the one event is before the other.
  pub before_test : (u v : ℕ) → T (before P u v) ↔ Before P u v
  unfolding before
  before_test u v = (sound P.pairs (le_refl P.pairs) u v, λ b. complete b)

  -- Whatever else says what is before is the same test.
  pub says_before : (x : Bool) (u v : ℕ) → T x ↔ Before P u v → x ≡ before P u v
  says_before x u v says = same x (before P u v) (λ t. (before_test u v).1 (says.0 t)) (λ t. says.1 ((before_test u v).0 t))

  -- The test of independence passes exactly if two events are independent.
  pub independent_test : (u v : ℕ) → T (independent P u v) ↔ Independent P u v
  unfolding independent
  independent_test u v =
      let A : Bool = not (before P u v) in
      let B : Bool = not (before P v u) in (
        λ t.
            let h = and_yes (not (eqb u v)) (A && B) t in
            let k = and_yes A B h.1 in
            record {
              different = eqb_no h.0;
              not_before = λ b. T_not (before P u v) k.0 ((before_test u v).1 b);
              not_after = λ b. T_not (before P v u) k.1 ((before_test v u).1 b);
            },
        λ i.
            yes_and
            (not (eqb u v))
            (A && B)
            (not_T (eqb u v) (λ e. i.different (eqb→eq u v e)))
            (yes_and
            A
            B
            (not_T (before P u v) (λ b. i.not_before ((before_test u v).0 b)))
            (not_T (before P v u) (λ b. i.not_after ((before_test v u).0 b)))),
      )
