-- Once the pairs of all events of the queue are gone over, an event is left out exactly if the pairs have a cycle.
use Rattle.std.specs.Prelude.{ℕ, zero, suc, ◌+◌, ◌≤◌, ◌<◌, Bool, not, List, ◌≡◌, T, eqb, ltb, get_or}
use Rattle.std.proofs.Common.{arith, ⊎_elim, sym, subst, ◌∙◌, T_not, eqb→eq, ltb→lt}
use Rattle.std.proofs.Math.Facts.{and_yes, yes_and, or_yes, yes_eqb, yes_ltb}
use Rattle.finite.specs.Bounded.{any, any_yes, yes_any, decide, same}
use Rattle.finite.specs.Count.{count, count_full, count_insert, count_mono, count_none, count_room}
use Rattle.finite.specs.Subset.{Set, insert}
use Rattle.ids.specs.Limits.{most_events}
use Rattle.plan.proofs.Closure.{before_test}
use Rattle.plan.specs.Net.{Plan}
use Rattle.plan.specs.Order.{Before, pair, chain, before, Named}
use Rattle.sorting.specs.Rows.{has_cycle}
use Rattle.sorting.specs.Sorted.{ready, passed, Ordered, Round}
use Rattle.sorting.specs.Waiting.{waits_for}

module _ (P : Plan) where
  -- In the queue, what is before comes first.
  first_in : (queue : List ℕ) (n : ℕ) → Ordered P queue n → {u v : ℕ} → Before P u v → (k : ℕ) → k < n → v ≡ get_or queue k 0
      → (j : ℕ) × (j < k) × (get_or queue j 0 ≡ u)
  first_in queue n ordered (pair i l) k h e = ordered k i h l e
  first_in queue n ordered (chain b c) k h e =
      let mid = first_in queue n ordered c k h e in
      let low = first_in queue n ordered b mid.0 (omega (arith, mid.1)) (sym mid.2) in
      (low.0, omega (arith, low.1, mid.1), low.2)

  -- So no event of it is before itself.
  none_before : (queue : List ℕ) (n : ℕ) → Ordered P queue n → (v : ℕ) → Before P v v → (bound k : ℕ) → k < bound → k < n → ¬ (v ≡ get_or queue k 0)
  none_before queue n ordered v b zero k l h e = omega arith
  none_before queue n ordered v b (suc bound) k l h e =
      let low = first_in queue n ordered b k h e in
      none_before queue n ordered v b bound low.0 (omega (arith, low.1)) (omega (arith, low.1)) (sym low.2)

  module _ (left queue : List ℕ) (n : ℕ) (done : Round P left queue n n) (few : P.events ≤ most_events)
      (named : Named P) where
    abbrev R : Set
    R = ready P.events left

    -- Whatever is left out waits for something that is left out.
    waits_still : (v : ℕ) → v < P.events → (T (R v) → ⊥) → (i : ℕ) × (i < P.pairs) × (P.later i ≡ v) × (T (R (P.earlier i)) → ⊥)
    waits_still v l out = ⊎_elim some none (decide (any P.pairs W))
      where
        W : Set
        W = waits_for P (passed P queue n) v

        some : T (any P.pairs W) → (i : ℕ) × (i < P.pairs) × (P.later i ≡ v) × (T (R (P.earlier i)) → ⊥)
        some t =
            let found = any_yes P.pairs W t in
            let i = found.0 in
            let rest = and_yes (eqb (P.later i) v) (not (passed P queue n i)) found.2 in (
              i,
              found.1,
              eqb→eq (P.later i) v rest.0,
              λ r.
                  let at = done.queued.placed (P.earlier i) r in
                  T_not
                  (passed P queue n i)
                  rest.1
                  (yes_any n (λ k. eqb (get_or queue k 0) (P.earlier i)) at.0 at.1 (yes_eqb at.2)),
            )

        none : T (not (any P.pairs W)) → (i : ℕ) × (i < P.pairs) × (P.later i ≡ v) × (T (R (P.earlier i)) → ⊥)
        none t =
            let zero_is : count P.pairs W ≡ 0 = count_none P.pairs W (λ i h s. T_not (any P.pairs W) t (yes_any P.pairs W i h s)) in
            absurd (out (yes_and (ltb v P.events) (eqb (get_or left v 0) 0) (yes_ltb l) (yes_eqb (done.waits.counts v (omega (arith, few)) ∙ zero_is))))

    -- If all is in the queue, nothing is before itself.
    all_in : (v : ℕ) → v < P.events → T (R v) → ¬ Before P v v
    all_in v l r b =
        let at = done.queued.placed v r in
        none_before queue n done.ordered v b (suc at.0) at.0 (omega arith) at.1 (sym at.2)

    -- If nothing is before itself, all is in the queue: of an event that waits for another that is left out, that other has fewer before it.
    none_out : ((v : ℕ) → v < P.events → T (before P v v) → ⊥) → (bound v : ℕ) → count P.events (λ u. before P u v) < bound
        → v < P.events → (T (R v) → ⊥) → ⊥
    none_out acyclic zero v fewer l out = omega (arith, fewer)
    none_out acyclic (suc bound) v fewer l out =
        let w = waits_still v l out in
        let u = P.earlier w.0 in
        let below = named.earlier w.0 w.1 in
        none_out acyclic bound u (omega (arith, fewer, less w.0 w.1 w.2)) below w.3
      where
        less : (i : ℕ) → i < P.pairs → P.later i ≡ v
            → count P.events (λ z. before P z (P.earlier i)) + 1 ≤ count P.events (λ z. before P z v)
        less i h e =
            let u = P.earlier i in
            let uv : Before P u v = subst (λ (z : ℕ). Before P u z) e (pair i h) in
            let below = named.earlier i h in
            omega (
              arith,
              count_insert P.events u (λ z. before P z u) below (acyclic u below),
              count_mono P.events (insert u (λ z. before P z u)) (λ z. before P z v) (λ z lz tz.
                  ⊎_elim
                  (λ here. (before_test P z v).1 (subst (λ (y : ℕ). Before P y v) (sym (eqb→eq z u here)) uv))
                  (λ up. (before_test P z v).1 (chain ((before_test P z u).0 up) uv))
                  (or_yes (eqb z u) (before P z u) tz)),
            )

    -- An event is left out exactly if there is a cycle.
    pub left_out : ltb n P.events ≡ has_cycle P
    unfolding has_cycle
    left_out = same (ltb n P.events) cycle to from
      where
        B : Set
        B v = before P v v

        cycle : Bool
        cycle = any P.events B

        to : T (ltb n P.events) → T cycle
        to t =
            ⊎_elim
            (λ y. y)
            (λ no.
            let acyclic : (v : ℕ) → v < P.events → T (B v) → ⊥ = λ v l b. T_not cycle no (yes_any P.events B v l b) in
            let full : count P.events R ≡ P.events = count_full P.events R (λ v l.
            ⊎_elim (λ r. r) (λ out. absurd (none_out acyclic (suc (count P.events (λ u. before P u v))) v (omega arith) l (T_not (R v) out))) (decide (R v))) in
            absurd (omega (arith, full, done.queued.counted, ltb→lt n P.events t)))
            (decide cycle)

        from : T cycle → T (ltb n P.events)
        from t =
            let some = any_yes P.events B t in
            let v = some.0 in
            ⊎_elim
            (λ r. absurd (all_in v some.1 r ((before_test P v v).0 some.2)))
            (λ out. let room : n < P.events = omega (arith, done.queued.counted, count_room P.events v R some.1 (T_not (R v) out)) in yes_ltb room)
            (decide (R v))
