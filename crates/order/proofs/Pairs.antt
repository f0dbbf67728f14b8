-- Pair after pair: those so far are marked and held, and none of them repeats an earlier one.
use Prim.Native.Nat.{ℕ, ◌+◌, ◌<◌}
use native.Mathlib.Omega.{arith}
use mathlib.Core.Bool.{◌&&◌}
use mathlib.Core.List.{List}
use mathlib.Core.Option.{none}
use mathlib.Core.Path.{◌≡◌, refl, sym, ap, ap₂, fun_ext, ◌∙◌}
use lib.Dec.{eqb, eqb→eq}
use lib.ListN.{get_or}
use mir.Facts.{yes_eqb}
use Rattle.finite.specs.Bounded.{any, same}
use Rattle.finite.specs.Queue.{Stored, stored_below, below_next}
use Rattle.ids.specs.Limits.{most_events, rows_words}
use Rattle.marks.specs.Marks.{marked, MarkAdded}
use Rattle.closure.specs.Ordered.{is_pair}
use Rattle.closure.specs.PlanRows.{pairs_start, pairs_more}
use Rattle.plan.specs.Net.{Plan}
use Rattle.sheet.specs.Items.{earlier_at, later_at, plan_of}
use Rattle.sheet.specs.Faults.{no_event, same_pair, repeat_at}
use Rattle.sheet.specs.Faultless.{ends}
use Rattle.sheet.specs.Laid.{Laid}
use Rattle.sheet.specs.Table.{pairs_of}
use Rattle.order.specs.Rows.{Blank, PairsHeld}

eqb_swap : (a b : ℕ) → eqb a b ≡ eqb b a
eqb_swap a b =
    same
    (eqb a b)
    (eqb b a)
    (λ t. yes_eqb {a = b} {b = a} (sym (eqb→eq a b t)))
    (λ t. yes_eqb {a = a} {b = b} (sym (eqb→eq b a t)))

-- what stands at the mark of a pair says whether it repeats one of those so far
pub repeat_marked : (s : List ℕ) (i : ℕ) (succ from to : List ℕ) → PairsHeld (plan_of s) i succ from to → (a b : ℕ) → a ≡ earlier_at s i
    → b ≡ later_at s i → b < most_events → marked succ a b ≡ repeat_at s i
unfolding repeat_at same_pair is_pair
repeat_marked s i succ from to g a b e f l =
    g.marks.marks a b l ∙ ap (any i) (fun_ext (λ j. ap₂ ◌&&◌ (eqb_swap a (earlier_at s j)) (eqb_swap b (later_at s j))))
    ∙ rw (e, f) refl

-- both ends of a pair are events, where fault 8 is absent
pub few_ends : (s : List ℕ) → Laid s → no_event s ≡ none → (i : ℕ) {a b : ℕ} → a ≡ earlier_at s i → b ≡ later_at s i → i < pairs_of s
    → (a < most_events) × (b < most_events)
few_ends s known all i e f l = let named = ends s all i l in omega (arith, known.limited.events)

module _ (P : Plan) where
  pub start : (succ from to : List ℕ) → Blank succ → PairsHeld P 0 succ from to
  start succ from to e = record { marks = rw e (pairs_start P rows_words); earlier = λ i l. absurd (omega arith); later = λ i l. absurd (omega arith) }

  pub more : (i : ℕ) {succ from to succ' from' to' : List ℕ} → PairsHeld P i succ from to → (a b : ℕ) → a ≡ P.earlier i → b ≡ P.later i
      → MarkAdded succ succ' a b → Stored from from' i a → Stored to to' i b → PairsHeld P (i + 1) succ' from' to'
  more i {succ} {from} {to} {succ'} {from'} {to'} g a b e f marked starts ends =
      record {
        marks = pairs_more P i succ succ' g.marks (rw (e, f) at marked);
        earlier = held from from' a P.earlier starts e g.earlier;
        later = held to to' b P.later ends f g.later;
      }
    where
      held : (row row' : List ℕ) (x : ℕ) (end : ℕ → ℕ) → Stored row row' i x → x ≡ end i → ((k : ℕ) → k < i → get_or row k 0 ≡ end k)
          → (k : ℕ) → k < i + 1 → get_or row' k 0 ≡ end k
      held row row' x end put is so_far k l =
          below_next
          i
          k
          l
          (λ low. stored_below put k low ∙ so_far k low)
          (λ here. ap (λ (z : ℕ). get_or row' z 0) here ∙ put.here ∙ is ∙ ap end (sym here))

  pub all_held : (i n : ℕ) (succ from to : List ℕ) → PairsHeld P i succ from to → i ≡ n → PairsHeld P n succ from to
  all_held i n succ from to g e = rw e at g
