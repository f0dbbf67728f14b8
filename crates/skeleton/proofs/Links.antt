-- Pair after pair: the skeleton pairs among those so far are marked and listed.
use Prim.Native.Nat.{ℕ, ◌+◌, ◌<◌}
use native.Mathlib.Omega.{arith}
use mathlib.Core.Bool.{Bool, true, false, not, ◌&&◌}
use mathlib.Core.List.{List}
use mathlib.Core.Logic.{⊎_elim}
use mathlib.Core.Path.{◌≡◌, sym, ap, subst, ◌∙◌}
use denote.Floats.{passes}
use lib.Dec.{T, eqb, eqb→eq}
use mir.Facts.{and_yes, yes_and, or_yes, yes_eqb}
use Rattle.ids.specs.Limits.{most_events, most_pairs, rows_words}
use Rattle.finite.specs.Bounded.{below_suc, yes_or_left, yes_or_right}
use Rattle.finite.specs.Search.{fails}
use Rattle.plan.specs.Net.{Plan}
use Rattle.plan.specs.Order.{skeleton}
use Rattle.marks.specs.Marks.{marked, meeting, none_marked, MarkAdded}
use Rattle.order.specs.Laws.{skeleton_marked}
use Rattle.order.specs.Rows.{Blank, OrderRows}
use Rattle.sheet.specs.Faultless.{Faultless}
use Rattle.sheet.specs.Items.{earlier_at, later_at, plan_of}
use Rattle.sheet.specs.Table.{pairs_of}
use Rattle.skeleton.specs.Linked.{IsLink, Linked}
use Rattle.skeleton.specs.Lists.{Unlisted, PairListed, Lists}
use Rattle.skeleton.proofs.Listing.{lists_none, lists_skip, lists_more}

pub links_none : (P : Plan) (m : ℕ) (skel index : List ℕ) → m ≡ 0 → Blank skel → Unlisted index → Linked P m skel index
links_none P m skel index none blank unlisted =
    record {
      links = λ a b ha hb t. absurd (fails (marked skel b a) (rw blank (none_marked rows_words b a)) t);
      marks = λ i l t. absurd (omega arith);
      lists = subst (λ (n : ℕ). Lists P n index) (sym none) (lists_none P index unlisted);
    }

module _ {P : Plan} {m : ℕ} {skel index : List ℕ} (l : Linked P m skel index) where
  pub links_all : {n : ℕ} → m ≡ n → Linked P n skel index
  links_all e = subst (λ (n : ℕ). Linked P n skel index) e l

  wider : {a b : ℕ} → (i : ℕ) × IsLink P m a b i → (i : ℕ) × IsLink P (m + 1) a b i
  wider (i, k) = (i, record { named = omega (arith, k.named); bare = k.bare; starts = k.starts; ends = k.ends })

  module _ (room : m < most_pairs) where
    skip : skeleton P m ≡ false → Linked P (m + 1) skel index
    skip passed =
        record {
          links = λ a b ha hb t. wider (l.links a b ha hb t);
          marks = λ i h t.
              below_suc
              m
              i
              (omega arith)
              (λ low. l.marks i low t)
              (λ e. absurd (fails (skeleton P m) passed (subst (λ (n : ℕ). T (skeleton P n)) e t)));
          lists = lists_skip P l.lists room passed;
        }

    module _ (narrow : (i : ℕ) → i < m + 1 → P.earlier i < most_events) (bare : skeleton P m ≡ true) {skel' index' : List ℕ}
        (hb : P.later m < most_events) (added : MarkAdded skel skel' (P.later m) (P.earlier m)) (put : PairListed index index' (P.earlier m) (P.later m) m) where
      more : Linked P (m + 1) skel' index'
      more =
          record {
            links = λ a b ha hb t.
                ⊎_elim
                (λ old. wider (l.links a b ha hb old))
                (λ new. it a b new)
                (or_yes (marked skel b a) (eqb b (P.later m) && eqb a (P.earlier m)) (subst T (added.marks b a ha) t));
            marks = λ i h t.
                subst
                T
                (sym (added.marks (P.later i) (P.earlier i) (narrow i h)))
                (below_suc
                m
                i
                (omega arith)
                (λ low. yes_or_left (marked skel (P.later i) (P.earlier i)) _ (l.marks i low t))
                (λ e. yes_or_right (marked skel (P.later i) (P.earlier i)) _ (is i e)));
            lists = lists_more P l.lists room bare hb put;
          }
        where
          is : (i : ℕ) → i ≡ m → T (eqb (P.later i) (P.later m) && eqb (P.earlier i) (P.earlier m))
          is i e = yes_and (eqb (P.later i) (P.later m)) _ (yes_eqb (ap P.later e)) (yes_eqb (ap P.earlier e))

          it : (a b : ℕ) → T (eqb b (P.later m) && eqb a (P.earlier m)) → (i : ℕ) × IsLink P (m + 1) a b i
          it a b t =
              let both = and_yes (eqb b (P.later m)) (eqb a (P.earlier m)) t in (
                m,
                record {
                  named = omega arith;
                  bare = passes (skeleton P m) bare;
                  starts = sym (eqb→eq a (P.earlier m) both.1);
                  ends = sym (eqb→eq b (P.later m) both.0);
                },
              )

-- pair i of a faultless sheet
module _ {s : List ℕ} (known : Faultless s) {i a b : ℕ} (lm : i < pairs_of s) (at_a : a ≡ earlier_at s i) (at_b : b ≡ later_at s i) where
  pub within : (a < most_events) × (b < most_events)
  within = (omega (arith, known.earlier i lm, known.laid.limited.events), omega (arith, known.later i lm, known.laid.limited.events))

  room : i < most_pairs
  room = omega (arith, known.laid.limited.pairs)

  module _ {succ pred : List ℕ} (rows : OrderRows (plan_of s) succ pred) {r : Bool} (told : r ≡ not (meeting succ a pred b)) where
    answer : skeleton (plan_of s) i ≡ r
    answer = sym (told ∙ rw (at_a, at_b) (skeleton_marked s known succ pred rows i lm))

    module _ {skel index : List ℕ} (l : Linked (plan_of s) i skel index) where
      pub link_skip : r ≡ false → Linked (plan_of s) (i + 1) skel index
      link_skip away = skip l room (answer ∙ away)

      pub link_more : {skel' index' : List ℕ} → r ≡ true → MarkAdded skel skel' b a → PairListed index index' a b i → Linked (plan_of s) (i + 1) skel' index'
      link_more bare added new =
          more
          l
          room
          (λ j h. omega (arith, known.earlier j (omega arith), known.laid.limited.events))
          (answer ∙ bare)
          (omega (arith, within))
          (rw (at_a, at_b) at added)
          (rw (at_a, at_b) at new)
