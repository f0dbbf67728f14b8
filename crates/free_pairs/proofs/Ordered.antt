-- In rows of an order each two ordered events have one mark, so marks and free pairs make all pairs of two events.
use Rattle.std.specs.Prelude.{map}
use Rattle.std.specs.List.{sum as list_sum, range_with_len}
use Rattle.std.proofs.lemmas.List.FromFn.{sum_by-map-range_with_len_more}
use native.Mathlib.Numerals.{add-one}
use Prim.Native.Nat.{ℕ, zero, suc, ◌+◌, ◌*◌, ◌≤◌, ◌<◌}
use native.Mathlib.Nat.{le_antisymm, mul-le-mul}
use native.Mathlib.Omega.{arith}
use mathlib.Core.Bool.{not}
use mathlib.Core.List.{List}
use mathlib.Core.Path.{◌≡◌, sym, ap, subst, ◌∙◌}
use lib.Dec.{T, not_T, eqb, eqb→eq}
use mir.Facts.{and_yes, yes_and}
use Rattle.finite.specs.Count.{count, count_below, count_ext}
use Rattle.finite.specs.Pairs.{neither, count_pairs}
use Rattle.finite.proofs.Pairs.{pairs_left, pairs_mono}
use Rattle.finite.specs.Sum.{sum, sum_ext, sum_more, sum_start}
use Rattle.ids.specs.Limits.{most_events}
use Rattle.plan.specs.Net.{Plan}
use Rattle.plan.specs.Order.{chain, before, independent, free_count}
use Rattle.plan.proofs.Closure.{before_test, says_before}
use Rattle.marks.specs.Marks.{marked}
use Rattle.mark_count.specs.MarkCount.{marks_of}
use Rattle.free_pairs.specs.FreeRows.{OrderIn, SomeOrder, ordered_in}

-- the marks of the first n rows, added up as a list
pub total : (rows : List ℕ) (n : ℕ) → list_sum (map (marks_of rows) (range_with_len 0 n)) ≡ ordered_in rows n
unfolding ordered_in
total rows zero = sym (sum_start (marks_of rows))
total rows (suc n) =
    ap (λ (k : ℕ). list_sum (map (marks_of rows) (range_with_len 0 k))) (sym (add-one n))
    ∙ sum_by-map-range_with_len_more (λ x. x) (marks_of rows) 0 n n (omega arith)
    ∙ ap (λ (k : ℕ). k + marks_of rows n) (total rows n) ∙ sym (sum_more n (marks_of rows))
    ∙ ap (λ (k : ℕ). sum k (marks_of rows)) (add-one n)

module _ (P : Plan) (rows : List ℕ) (n : ℕ) (order : OrderIn P rows n) (few : n ≤ most_events) where
  -- row v has a mark for each event that is before v
  before_counted : (v : ℕ) → v < n → marks_of rows v ≡ count n (λ u. before P u v)
  before_counted v l =
      count_below most_events n (marked rows v) few (λ u h t. omega (arith, order.events, order.before.only v u h t))
      ∙ count_ext n (marked rows v) (λ u. before P u v) (λ u k.
      says_before P (marked rows v u) u v (order.before.marks v u (omega (arith, order.events, l)) (omega (arith, order.events, k))))

  -- no two events are before each other
  one_way : (u v : ℕ) → T (before P u v) → T (before P v u) → ⊥
  one_way u v s t = order.sound.acyclic u (chain ((before_test P u v).0 s) ((before_test P v u).0 t))

  -- of two different events neither is before the other exactly if they are independent
  free_neither : free_count P ≡ count_pairs n (neither (before P))
  unfolding free_count independent
  free_neither =
      subst (λ (m : ℕ). count_pairs m (independent P) ≡ count_pairs n (neither (before P))) order.events
      (le_antisymm
      (pairs_mono n (independent P) (neither (before P)) (λ u v k l t. (and_yes (not (eqb u v)) (neither (before P) u v) t).1))
      (pairs_mono n (neither (before P)) (independent P) (λ u v k l t.
      yes_and (not (eqb u v)) (neither (before P) u v) (not_T (eqb u v) (λ e. omega (arith, k, eqb→eq u v e))) t)))

  pub all_pairs : 2 * (free_count P + ordered_in rows n) + n ≡ n * n
  unfolding ordered_in
  all_pairs =
      omega (
        arith,
        free_neither,
        sum_ext n (marks_of rows) (λ v. count n (λ u. before P u v)) before_counted,
        pairs_left (before P) n (λ u v k l. one_way u v),
      )

-- The square of n fits, and half of what is left of it without n has room for the marks.
pub record Fits (rows : List ℕ) (n : ℕ) : Type 0 where
  pub square : n * n ≤ 65536
  pub ordered : 2 * ordered_in rows n + n ≤ n * n

pub fits : (rows : List ℕ) (n : ℕ) → n ≤ most_events → SomeOrder rows n → Fits rows n
fits rows n few some =
    record {
      square = mul-le-mul {n₁ = n} {n₂ = most_events} few few;
      ordered = omega (arith, all_pairs some.0 rows n some.1 few);
    }
