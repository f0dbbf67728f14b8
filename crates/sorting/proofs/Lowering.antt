-- An event waits for one pair less.
use Prim.Native.Nat.{ℕ, ◌+◌, ◌-◌, ◌≤◌, ◌<◌}
use native.Mathlib.Omega.{arith}
use mathlib.Core.Bool.{not, ◌||◌}
use mathlib.Core.List.{List}
use mathlib.Core.Logic.{⊎_elim}
use mathlib.Core.Path.{◌≡◌, sym, ap, subst, ◌∙◌}
use lib.Dec.{T, T_not, not_T, eqb, eqb→eq, eqb_refl, ltb}
use lib.ListN.{get_or}
use mir.Facts.{and_yes, yes_and, or_yes, yes_eqb, yes_ltb, eqb_no}
use Rattle.finite.specs.Bounded.{decide, same, yes_or_left, yes_or_right}
use Rattle.finite.specs.Count.{count, count_ext, count_insert}
use Rattle.finite.specs.Queue.{Stored}
use Rattle.finite.specs.Subset.{Set, insert, set_ext}
use Rattle.ids.specs.Limits.{most_events}
use Rattle.plan.specs.Net.{Plan}
use Rattle.sorting.specs.Sorted.{ready}
use Rattle.sorting.specs.Waiting.{waits_for, Waits}

-- The pair j ends at v, and is not gone.
pub record Waiting (P : Plan) (gone : Set) (v j : ℕ) : Type 0 where
  pub ends : P.later j ≡ v
  pub stays : T (gone j) → ⊥

module _ (P : Plan) (gone : Set) (v j : ℕ) where
  waits_is : T (waits_for P gone v j) → Waiting P gone v j
  waits_is t =
      let parts = and_yes (eqb (P.later j) v) (not (gone j)) t in
      record { ends = eqb→eq (P.later j) v parts.0; stays = T_not (gone j) parts.1 }

  pub is_waits : Waiting P gone v j → T (waits_for P gone v j)
  is_waits w = yes_and (eqb (P.later j) v) (not (gone j)) (yes_eqb w.ends) (not_T (gone j) w.stays)

-- the same but for what is gone
moved : (P : Plan) (gone other : Set) (v j : ℕ) → (T (other j) → T (gone j)) → T (waits_for P gone v j) → T (waits_for P other v j)
moved P gone other v j h t =
    let w = waits_is P gone v j t in
    is_waits P other v j (record { ends = w.ends; stays = λ o. w.stays (h o) })

module _ (P : Plan) (gone : Set) (left : List ℕ) (waits : Waits P gone P.pairs left) where
  pub waits_same : (other : Set) → ((i : ℕ) → i < P.pairs → T (gone i) → T (other i)) → ((i : ℕ) → i < P.pairs → T (other i) → T (gone i))
      → Waits P other P.pairs left
  waits_same other to from =
      record {
        counts = λ v l.
            waits.counts v l
            ∙ count_ext P.pairs (waits_for P gone v) (waits_for P other v) (λ i h.
            same (waits_for P gone v i) (waits_for P other v i) (moved P gone other v i (from i h)) (moved P other gone v i (to i h)));
      }

  module _ (i v : ℕ) (below : i < P.pairs) (is : Waiting P gone v i) (event : v < most_events) where
    one_less : count P.pairs (waits_for P gone v) ≡ count P.pairs (waits_for P (insert i gone) v) + 1
    one_less =
        count_ext P.pairs (waits_for P gone v) (insert i (waits_for P (insert i gone) v)) (λ j h.
        same (waits_for P gone v j) (eqb j i || waits_for P (insert i gone) v j) (to j) (from j))
        ∙ count_insert
        P.pairs
        i
        (waits_for P (insert i gone) v)
        below
        (λ t. (waits_is P (insert i gone) v i t).stays (yes_or_left (eqb i i) (gone i) (eqb_refl i)))
      where
        to : (j : ℕ) → T (waits_for P gone v j) → T (eqb j i || waits_for P (insert i gone) v j)
        to j t =
            ⊎_elim
            (λ e. yes_or_left (eqb j i) _ e)
            (λ other.
            yes_or_right
            (eqb j i)
            _
            (moved P gone (insert i gone) v j (λ g. ⊎_elim (λ e. absurd (T_not (eqb j i) other e)) (λ o. o) (or_yes (eqb j i) (gone j) g)) t))
            (decide (eqb j i))

        from : (j : ℕ) → T (eqb j i || waits_for P (insert i gone) v j) → T (waits_for P gone v j)
        from j t =
            ⊎_elim
            (λ e. subst (λ (k : ℕ). T (waits_for P gone v k)) (sym (eqb→eq j i e)) (is_waits P gone v i is))
            (λ o. moved P (insert i gone) gone v j (λ g. yes_or_right (eqb j i) (gone j) g) o)
            (or_yes (eqb j i) (waits_for P (insert i gone) v j) t)

    as_many : (w : ℕ) → ¬ (w ≡ v) → count P.pairs (waits_for P gone w) ≡ count P.pairs (waits_for P (insert i gone) w)
    as_many w other =
        count_ext P.pairs (waits_for P gone w) (waits_for P (insert i gone) w) (λ j h.
        same
        (waits_for P gone w j)
        (waits_for P (insert i gone) w j)
        (λ t.
        moved P gone (insert i gone) w j (λ g.
        ⊎_elim
        (λ e. absurd (other (sym (waits_is P gone w j t).ends ∙ ap P.later (eqb→eq j i e) ∙ is.ends)))
        (λ o. o)
        (or_yes (eqb j i) (gone j) g)) t)
        (moved P (insert i gone) gone w j (λ g. yes_or_right (eqb j i) (gone j) g)))

    -- it waits for that pair at least
    pub waits_some : 1 ≤ get_or left v 0
    waits_some = omega (arith, waits.counts v event, one_less)

    pub waits_less : {new : List ℕ} → Stored left new v (get_or left v 0 - 1) → Waits P (insert i gone) P.pairs new
    waits_less put =
        record {
          counts = λ w l.
              ⊎_elim
              (λ e.
              let same-event : w ≡ v = eqb→eq w v e in
              rw same-event (omega (arith, put.here, waits.counts v event, one_less)))
              (λ other. put.others w (eqb_no other) ∙ waits.counts w l ∙ as_many w (eqb_no other))
              (decide (eqb w v));
        }

-- what is ready, after that
module _ (n v : ℕ) (left less : List ℕ) (event : v < n) (put : Stored left less v (get_or left v 0 - 1)) (some : 1 ≤ get_or left v 0) where
  pub not_ready : T (ready n left v) → ⊥
  not_ready t = omega (arith, some, eqb→eq (get_or left v 0) 0 (and_yes (ltb v n) (eqb (get_or left v 0) 0) t).1)

  -- a number other than v
  kept : (w : ℕ) (old new : List ℕ) → get_or new w 0 ≡ get_or old w 0 → T (ready n old w) → T (ready n new w)
  kept w old new e t =
      let parts = and_yes (ltb w n) (eqb (get_or old w 0) 0) t in
      yes_and (ltb w n) (eqb (get_or new w 0) 0) parts.0 (yes_eqb (e ∙ eqb→eq (get_or old w 0) 0 parts.1))

  pub ready_same : ¬ (get_or left v 0 ≡ 1) → ready n less ≡ ready n left
  ready_same more =
      set_ext
      (ready n less)
      (ready n left)
      (λ w t.
      ⊎_elim
      (λ e.
      let zero_is : get_or less v 0 ≡ 0 = ap (λ (x : ℕ). get_or less x 0) (sym (eqb→eq w v e)) ∙ eqb→eq (get_or less w 0) 0 (and_yes (ltb w n) (eqb (get_or less w 0) 0) t).1 in
      absurd (more (omega (arith, zero_is, put.here, some))))
      (λ other. kept w less left (sym (put.others w (eqb_no other))) t)
      (decide (eqb w v)))
      (λ w t.
      ⊎_elim
      (λ e. absurd (not_ready (subst (λ (x : ℕ). T (ready n left x)) (eqb→eq w v e) t)))
      (λ other. kept w left less (put.others w (eqb_no other)) t)
      (decide (eqb w v)))

  pub ready_more : get_or left v 0 ≡ 1 → ready n less ≡ insert v (ready n left)
  ready_more one =
      set_ext
      (ready n less)
      (insert v (ready n left))
      (λ w t.
      ⊎_elim
      (λ e. yes_or_left (eqb w v) (ready n left w) e)
      (λ other. yes_or_right (eqb w v) (ready n left w) (kept w less left (sym (put.others w (eqb_no other))) t))
      (decide (eqb w v)))
      (λ w t.
      ⊎_elim
      (λ e.
      let same-event : w ≡ v = eqb→eq w v e in
      let none : get_or less v 0 ≡ 0 = omega (arith, put.here, one) in
      rw same-event (yes_and (ltb v n) (eqb (get_or less v 0) 0) (yes_ltb event) (yes_eqb none)))
      (λ old. let other : ¬ (w ≡ v) = λ e. not_ready (subst (λ (x : ℕ). T (ready n left x)) e old) in kept w left less (put.others w other) old)
      (or_yes (eqb w v) (ready n left w) t))

-- it waits for nothing then exactly if it waited for one pair
module _ {left less : List ℕ} {v : ℕ} (put : Stored left less v (get_or left v 0 - 1)) (some : 1 ≤ get_or left v 0) where
  pub was_one : get_or less v 0 ≡ 0 → get_or left v 0 ≡ 1
  was_one none = omega (arith, none, some, put.here)

  pub was_more : ¬ (get_or less v 0 ≡ 0) → ¬ (get_or left v 0 ≡ 1)
  was_more rest one = rest (omega (arith, one, put.here))
