-- Pair after pair: each skeleton pair is listed at the event where it ends.
use Prim.Native.Nat.{ℕ, ◌+◌, ◌<◌}
use native.Mathlib.Omega.{arith}
use mathlib.Core.Bool.{true, false}
use mathlib.Core.List.{List}
use mathlib.Core.Logic.{⊎_elim}
use mathlib.Core.Path.{◌≡◌, sym, subst, ◌∙◌}
use denote.Floats.{passes}
use lib.Dec.{T, eqb, eqb→eq, eqb_refl}
use lib.ListN.{get_or}
use mir.Facts.{and_yes, yes_and, eqb_no}
use Rattle.finite.specs.Bounded.{decide}
use Rattle.finite.specs.Last.{last, last_start, last_here, last_still}
use Rattle.finite.specs.Queue.{Stored, below_next}
use Rattle.finite.specs.Row.{zeros}
use Rattle.finite.specs.Search.{fails}
use Rattle.ids.specs.Limits.{most_events, most_pairs}
use Rattle.plan.specs.Net.{Plan}
use Rattle.plan.specs.Order.{skeleton}
use Rattle.skeleton.specs.Lists.{index_size, link_at, start_at, Unlisted, PairListed, ends_at, Lists}

-- the three stores
pub pair_listed : {old linked started new : List ℕ} {a b i : ℕ} → b < most_events → i < most_pairs
    → Stored old linked (link_at i) (get_or old b 0) → Stored linked started (start_at i) a → Stored started new b (i + 1) → PairListed old new a b i
pair_listed {i = i} event few link start head =
    record {
      head = head.here;
      link = head.others (link_at i) (λ e. omega arith) ∙ start.others (link_at i) (λ e. omega arith) ∙ link.here;
      start = head.others (start_at i) (λ e. omega arith) ∙ start.here;
      others = λ at no-head no-link no_start. head.others at no-head ∙ start.others at no_start ∙ link.others at no-link;
    }

module _ (P : Plan) where
  pub lists_none : (index : List ℕ) → Unlisted index → Lists P 0 index
  lists_none index none =
      record {
        few = omega arith;
        heads = λ v l. rw none (zeros index_size v) ∙ sym (last_start (ends_at P v));
        links = λ i l. absurd (omega arith);
        starts = λ i l. absurd (omega arith);
      }

  module _ {m : ℕ} {index : List ℕ} (so_far : Lists P m index) (room : m < most_pairs) where
    pub lists_skip : skeleton P m ≡ false → Lists P (m + 1) index
    lists_skip passed =
        record {
          few = omega arith;
          heads = λ v l.
              so_far.heads v l
              ∙ sym (last_still (ends_at P v) m (λ t. fails (skeleton P m) passed (and_yes (eqb (P.later m) v) (skeleton P m) t).1));
          links = λ i l t. below_next m i l (λ low. so_far.links i low t) (λ e. absurd (other i e t));
          starts = λ i l t. below_next m i l (λ low. so_far.starts i low t) (λ e. absurd (other i e t));
        }
      where
        other : (i : ℕ) → i ≡ m → T (skeleton P i) → ⊥
        other i e t = fails (skeleton P m) passed (subst (λ (n : ℕ). T (skeleton P n)) e t)

    module _ (bare : skeleton P m ≡ true) (event : P.later m < most_events) {index' : List ℕ} (put : PairListed index index' (P.earlier m) (P.later m) m) where
      heads : (v : ℕ) → v < most_events → get_or index' v 0 ≡ last (m + 1) (ends_at P v)
      heads v l =
          ⊎_elim
          (λ t.
          subst
          (λ (w : ℕ). get_or index' w 0 ≡ last (m + 1) (ends_at P w))
          (eqb→eq (P.later m) v t)
          (put.head ∙ sym (last_here (ends_at P (P.later m)) m (yes_and (eqb (P.later m) (P.later m)) (skeleton P m) (eqb_refl (P.later m)) (passes (skeleton P m) bare)))))
          (λ t.
          put.others v (λ e. eqb_no t (sym e)) (λ e. omega arith) (λ e. omega arith) ∙ so_far.heads v l
          ∙ sym
          (last_still (ends_at P v) m (λ s. eqb_no t (eqb→eq (P.later m) v (and_yes (eqb (P.later m) v) (skeleton P m) s).0))))
          (decide (eqb (P.later m) v))

      links : (i : ℕ) → i < m + 1 → T (skeleton P i) → get_or index' (link_at i) 0 ≡ last i (ends_at P (P.later i))
      links i l t =
          below_next
          m
          i
          l
          (λ low. put.others (link_at i) (λ e. omega arith) (λ e. omega arith) (λ e. omega arith) ∙ so_far.links i low t)
          (λ e.
          subst
          (λ (j : ℕ). get_or index' (link_at j) 0 ≡ last j (ends_at P (P.later j)))
          (sym e)
          (put.link ∙ so_far.heads (P.later m) event))

      starts : (i : ℕ) → i < m + 1 → T (skeleton P i) → get_or index' (start_at i) 0 ≡ P.earlier i
      starts i l t =
          below_next
          m
          i
          l
          (λ low. put.others (start_at i) (λ e. omega arith) (λ e. omega arith) (λ e. omega arith) ∙ so_far.starts i low t)
          (λ e. subst (λ (j : ℕ). get_or index' (start_at j) 0 ≡ P.earlier j) (sym e) put.start)

      pub lists_more : Lists P (m + 1) index'
      lists_more = record { few = omega arith; heads = heads; links = links; starts = starts }
