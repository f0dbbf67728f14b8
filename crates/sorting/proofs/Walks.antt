-- Along the list of one event of the queue: gone over are the pairs of the events before it, and its own from `at` on.
use Prim.Native.Nat.{ℕ, ◌+◌, ◌-◌, ◌≤◌, ◌<◌}
use native.Mathlib.Numerals.{lt_of_le_of_ne}
use native.Mathlib.Omega.{arith}
use mathlib.Core.Bool.{◌&&◌, ◌||◌}
use mathlib.Core.List.{List}
use mathlib.Core.Logic.{◌⊎◌, inl, inr, ⊎_elim}
use mathlib.Core.Path.{◌≡◌, refl, sym, ap, subst, ◌∙◌}
use lib.Dec.{T, T_not, eqb, eqb→eq, leb, leb→le, ltb, ltb→lt, nltb→le}
use lib.ListN.{get_or}
use mir.Facts.{and_yes, yes_and, or_yes, yes_eqb, yes_leb, eqb_no}
use Rattle.finite.specs.Bounded.{any_yes, yes_any, decide, yes_or_left, yes_or_right}
use Rattle.finite.specs.Count.{none_count}
use Rattle.finite.specs.Last.{last, last_le, last_passes, last_above}
use Rattle.finite.specs.Queue.{Queued, Stored, below_next, stored_below, queued_more, queued_room}
use Rattle.finite.specs.Subset.{Set, insert}
use Rattle.ids.specs.Limits.{most_events}
use Rattle.plan.specs.Net.{Plan}
use Rattle.sorting.specs.Sorted.{ready, passed, Ordered, Round}
use Rattle.sorting.specs.Steps.{Lowered}
use Rattle.sorting.specs.Waiting.{starts_at, waits_for, Waits}
use Rattle.sorting.proofs.Lowering.{Waiting, is_waits, waits_same, waits_some, waits_less, not_ready, ready_same, ready_more}

module _ (P : Plan) (old : List ℕ) (h u : ℕ) where
  abbrev gone : ℕ → Set
  gone at i = passed P old h i || (eqb (P.earlier i) u && leb at i)

  pub record Walk (at : ℕ) (left queue : List ℕ) (n : ℕ) : Type 0 where
    pub here : (k : ℕ) → at ≡ k + 1 → (k < P.pairs) × T (starts_at P u k)
    pub waits : Waits P (gone at) P.pairs left
    pub queued : Queued P.events (ready P.events left) queue n
    pub ordered : Ordered P queue n
    pub room : h < n
    pub still : (k : ℕ) → k ≤ h → get_or queue k 0 ≡ get_or old k 0

  -- a pair that is gone over
  gone_is : (at i : ℕ) → T (gone at i) → T (passed P old h i) ⊎ ((P.earlier i ≡ u) × (at ≤ i))
  gone_is at i t =
      ⊎_elim
      inl
      (λ own.
      let parts = and_yes (eqb (P.earlier i) u) (leb at i) own in
      inr (eqb→eq (P.earlier i) u parts.0, leb→le at i parts.1))
      (or_yes (passed P old h i) (eqb (P.earlier i) u && leb at i) t)

  gone_own : (at i : ℕ) → P.earlier i ≡ u → at ≤ i → T (gone at i)
  gone_own at i e l = yes_or_right (passed P old h i) _ (yes_and (eqb (P.earlier i) u) (leb at i) (yes_eqb e) (yes_leb l))

  gone_before : (at i : ℕ) → T (passed P old h i) → T (gone at i)
  gone_before at i t = yes_or_left (passed P old h i) _ t

  -- the link to the last pair of u below m
  linked : (m at : ℕ) → m ≤ P.pairs → at ≡ last m (starts_at P u) → (k : ℕ) → at ≡ k + 1 → (k < P.pairs) × T (starts_at P u k)
  linked m at few is k e =
      let there : last m (starts_at P u) ≡ k + 1 = sym is ∙ e in
      (omega (arith, few, last_le (starts_at P u) m, there), last_passes (starts_at P u) m k there)

  pub walk_start : (left : List ℕ) (n at : ℕ) → Round P left old h n → h < n → at ≡ last P.pairs (starts_at P u) → Walk at left old n
  walk_start left n at round room is =
      record {
        here = linked P.pairs at (omega arith) is;
        waits =
            waits_same P (passed P old h) left round.waits (gone at) (λ i l g. gone_before at i g) (λ i l g.
            ⊎_elim
            (λ g. g)
            (λ own. absurd (omega (arith, own.1, is, last_above (starts_at P u) P.pairs i l (yes_eqb own.0))))
            (gone_is at i g));
        queued = round.queued;
        ordered = round.ordered;
        room = room;
        still = λ k l. refl;
      }

  module _ (place : u ≡ get_or old h 0) where
    pub walk_end : (left queue : List ℕ) (n at : ℕ) → Walk at left queue n → at ≡ 0 → Round P left queue (h + 1) n
    walk_end left queue n at walk none =
        record {
          reached = omega (arith, walk.room);
          waits = waits_same P (gone at) left walk.waits (passed P queue (h + 1)) to from;
          queued = walk.queued;
          ordered = walk.ordered;
        }
      where
        to : (i : ℕ) → i < P.pairs → T (gone at i) → T (passed P queue (h + 1) i)
        to i l g =
            ⊎_elim
            (λ before.
            let k = any_yes h (λ k. eqb (get_or old k 0) (P.earlier i)) before in
            yes_any
            (h + 1)
            (λ k. eqb (get_or queue k 0) (P.earlier i))
            k.0
            (omega (arith, k.1))
            (yes_eqb (walk.still k.0 (omega (arith, k.1)) ∙ eqb→eq (get_or old k.0 0) (P.earlier i) k.2)))
            (λ own.
            yes_any (h + 1) (λ k. eqb (get_or queue k 0) (P.earlier i)) h (omega arith) (yes_eqb (walk.still h (omega arith) ∙ sym place ∙ sym own.0)))
            (gone_is at i g)

        from : (i : ℕ) → i < P.pairs → T (passed P queue (h + 1) i) → T (gone at i)
        from i l g =
            let k = any_yes (h + 1) (λ k. eqb (get_or queue k 0) (P.earlier i)) g in
            let is : get_or old k.0 0 ≡ P.earlier i = sym (walk.still k.0 (omega (arith, k.1))) ∙ eqb→eq (get_or queue k.0 0) (P.earlier i) k.2 in
            below_next
            h
            k.0
            k.1
            (λ low. gone_before at i (yes_any h (λ k. eqb (get_or old k 0) (P.earlier i)) k.0 low (yes_eqb is)))
            (λ end. gone_own at i (sym is ∙ ap (λ (z : ℕ). get_or old z 0) end ∙ sym place) (omega (arith, none)))

    module _ (left queue : List ℕ) (n at k : ℕ) (walk : Walk at left queue n) (at_k : at ≡ k + 1) where
      pub step_pair : (k < P.pairs) × (P.earlier k ≡ u)
      step_pair = let is = walk.here k at_k in (is.0, eqb→eq (P.earlier k) u is.1)

      -- It is not gone over yet, since each event is in the queue once.
      fresh : T (gone at k) → ⊥
      fresh g =
          ⊎_elim
          (λ before.
          let j = any_yes h (λ j. eqb (get_or old j 0) (P.earlier k)) before in
          walk.queued.once j.0 h j.1 walk.room (
          walk.still j.0 (omega (arith, j.1)) ∙ eqb→eq (get_or old j.0 0) (P.earlier k) j.2 ∙ step_pair.1 ∙ place ∙ sym (walk.still h (omega arith))
          ))
          (λ own. omega (arith, own.1, at_k))
          (gone_is at k g)

      module _ (v : ℕ) (ends : v ≡ P.later k) (event : v < P.events) (few : P.events ≤ most_events) where
        waiting : Waiting P (gone at) v k
        waiting = record { ends = sym ends; stays = fresh }

        event_few : v < most_events
        event_few = omega (arith, event, few)

        pub step_some : 1 ≤ get_or left v 0
        step_some = waits_some P (gone at) left walk.waits k v step_pair.0 waiting event_few

        -- there is room in the queue
        pub step_room : n < most_events
        step_room = omega (arith, few, queued_room walk.queued v event (λ t. eqb-zero t))
          where
            eqb-zero : T (ready P.events left v) → ⊥
            eqb-zero t = omega (arith, step_some, eqb→eq (get_or left v 0) 0 (and_yes (ltb v P.events) (eqb (get_or left v 0) 0) t).1)

        module _ {less : List ℕ} (lowered : Stored left less v (get_or left v 0 - 1)) (at' : ℕ) (is : at' ≡ last k (starts_at P u)) where
          -- what is gone over then
          waits-then : Waits P (gone at') P.pairs less
          waits-then =
              waits_same
              P
              (insert k (gone at))
              less
              (waits_less P (gone at) left walk.waits k v step_pair.0 waiting event_few lowered)
              (gone at')
              to
              from
            where
              to : (i : ℕ) → i < P.pairs → T (eqb i k || gone at i) → T (gone at' i)
              to i l g =
                  ⊎_elim
                  (λ e.
                  let same-pair : i ≡ k = eqb→eq i k e in
                  gone_own at' i (ap P.earlier same-pair ∙ step_pair.1) (omega (arith, same-pair, is, last_le (starts_at P u) k)))
                  (λ o.
                  ⊎_elim
                  (gone_before at' i)
                  (λ own. gone_own at' i own.0 (omega (arith, own.1, at_k, is, last_le (starts_at P u) k)))
                  (gone_is at i o))
                  (or_yes (eqb i k) (gone at i) g)

              from : (i : ℕ) → i < P.pairs → T (gone at' i) → T (eqb i k || gone at i)
              from i l g =
                  ⊎_elim
                  (λ before. yes_or_right (eqb i k) _ (gone_before at i before))
                  (λ own.
                  ⊎_elim
                  (λ e. yes_or_left (eqb i k) _ e)
                  (λ other.
                  ⊎_elim
                  (λ low. absurd (omega (arith, own.1, is, last_above (starts_at P u) k i (ltb→lt i k low) (yes_eqb own.0))))
                  (λ high. yes_or_right (eqb i k) _ (gone_own at i own.0 (above i (eqb_no other) (nltb→le i k high))))
                  (decide (ltb i k)))
                  (decide (eqb i k)))
                  (gone_is at' i g)
                where
                  above : (i : ℕ) → ¬ (i ≡ k) → k ≤ i → at ≤ i
                  above i other l = omega (arith, at_k, lt_of_le_of_ne l (λ e. other (sym e)))

          -- Where v waits for nothing then, what has a pair to it is in the queue.
          before-it : get_or less v 0 ≡ 0 → (i : ℕ) → i < P.pairs → P.later i ≡ v → (j : ℕ) × (j ≤ h) × (get_or queue j 0 ≡ P.earlier i)
          before-it none i l e =
              ⊎_elim
              (λ g.
              ⊎_elim
              (λ before.
              let j = any_yes h (λ j. eqb (get_or old j 0) (P.earlier i)) before in
              (j.0, omega (arith, j.1), walk.still j.0 (omega (arith, j.1)) ∙ eqb→eq (get_or old j.0 0) (P.earlier i) j.2))
              (λ own. (h, omega arith, walk.still h (omega arith) ∙ sym place ∙ sym own.0))
              (gone_is at' i g))
              (λ out.
              absurd
              (none_count
              P.pairs
              (waits_for P (gone at') v)
              (sym (waits-then.counts v event_few) ∙ none)
              i
              l
              (is_waits P (gone at') v i (record { ends = e; stays = T_not (gone at' i) out }))))
              (decide (gone at' i))

          walk-joins : {longer : List ℕ} → Stored queue longer n v → get_or left v 0 ≡ 1 → Walk at' less longer (n + 1)
          walk-joins {longer} put one =
              record {
                here = linked k at' (omega (arith, step_pair.0)) is;
                waits = waits-then;
                queued =
                    subst
                    (λ (S : Set). Queued P.events S longer (n + 1))
                    (sym (ready_more P.events v left less event lowered step_some one))
                    (queued_more walk.queued v event (not_ready P.events v left less event lowered step_some) put);
                ordered = λ z i l li e.
                    below_next
                    n
                    z
                    l
                    (λ low.
                    let j = walk.ordered z i low li (e ∙ stored_below put z low) in
                    (j.0, j.1, stored_below put j.0 (omega (arith, j.1)) ∙ j.2))
                    (λ end.
                    let none : get_or less v 0 ≡ 0 = omega (arith, one, lowered.here) in
                    let j = before-it none i li (e ∙ ap (λ (y : ℕ). get_or longer y 0) end ∙ put.here) in
                    (j.0, omega (arith, j.1, walk.room, end), stored_below put j.0 (omega (arith, j.1, walk.room)) ∙ j.2));
                room = omega (arith, walk.room);
                still = λ j l. stored_below put j (omega (arith, walk.room)) ∙ walk.still j l;
              }

          walk-stays : ¬ (get_or left v 0 ≡ 1) → Walk at' less queue n
          walk-stays more =
              record {
                here = linked k at' (omega (arith, step_pair.0)) is;
                waits = waits-then;
                queued =
                    subst
                    (λ (S : Set). Queued P.events S queue n)
                    (sym (ready_same P.events v left less event lowered step_some more))
                    walk.queued;
                ordered = walk.ordered;
                room = walk.room;
                still = walk.still;
              }

        pub walk_more : {less queue' : List ℕ} {n' : ℕ} → Lowered left queue less queue' v n n' → (at' : ℕ) → at' ≡ last k (starts_at P u) → Walk at' less queue' n'
        walk_more low at' is =
            ⊎_elim
            (λ t.
            let one = eqb→eq (get_or left v 0) 1 t in
            rw (low.joins one).1 (walk-joins low.counts at' is (low.joins one).0 one))
            (λ t. let more = eqb_no t in rw ((low.stays more).0, (low.stays more).1) (walk-stays low.counts at' is more))
            (decide (eqb (get_or left v 0) 1))
