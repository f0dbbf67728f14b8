-- Pair after pair: each is listed, and counted at the event where it ends.
use Prim.Native.Nat.{ℕ, ◌+◌, ◌<◌}
use native.Mathlib.Omega.{arith}
use mathlib.Core.Bool.{Bool, false, not}
use mathlib.Core.List.{List}
use mathlib.Core.Logic.{⊎_elim}
use mathlib.Core.Path.{◌≡◌, sym, ap, subst, ◌∙◌}
use lib.Dec.{T, T_not, eqb, eqb→eq, eqb_refl}
use lib.ListN.{get_or, replicate}
use mir.Facts.{and_yes, yes_and, yes_eqb, eqb_no}
use Rattle.finite.specs.Bounded.{decide, same}
use Rattle.finite.specs.Count.{count, count_start, count_more}
use Rattle.finite.specs.Last.{last, last_start, last_here, last_still}
use Rattle.finite.specs.Queue.{Stored, below_next, stored_below}
use Rattle.finite.specs.Row.{zeros}
use Rattle.finite.specs.Subset.{empty}
use Rattle.finite.specs.Sum.{on, on_yes, on_no}
use Rattle.ids.specs.Limits.{most_events}
use Rattle.plan.specs.Net.{Plan}
use Rattle.sorting.specs.Steps.{PairListed}
use Rattle.sorting.specs.Waiting.{starts_at, waits_for, Listed}
use Rattle.sorting.specs.Sorted.{NoLists}
use Rattle.sorting.specs.declared.PairLists.{PairLists}

-- one more at b, and all else as it was
raised : {old new : List ℕ} {b : ℕ} → Stored old new b (get_or old b 0 + 1) → (v : ℕ) → get_or new v 0 ≡ get_or old v 0 + on (eqb b v) 1
raised {old} {new} {b} put v =
    ⊎_elim
    (λ t. let here : b ≡ v = eqb→eq b v t in rw (sym here) (omega (arith, put.here, on_yes (eqb b b) 1 (eqb_refl b))))
    (λ t. omega (arith, put.others v (λ e. eqb_no t (sym e)), on_no (eqb b v) 1 (T_not (eqb b v) t)))
    (decide (eqb b v))

module _ (P : Plan) where
  pub listed_start : (l : PairLists) (n : ℕ) → NoLists l → Listed P l (replicate n 0) 0
  listed_start l n none =
      record {
        lists = record { heads = λ u h. ap (λ (row : List ℕ). get_or row u 0) none.0 ∙ zeros most_events u ∙ sym (last_start (starts_at P u)); links = λ i l. absurd (omega arith) };
        waits = record { counts = λ v l. zeros n v ∙ sym (count_start (waits_for P empty v)) };
      }

  module _ (lists : PairLists) (left : List ℕ) (m : ℕ) (so_far : Listed P lists left m) where
    module _ (a b : ℕ) (ea : a ≡ P.earlier m) (eb : b ≡ P.later m) (event : a < most_events) {lists' : PairLists} {left' : List ℕ}
        (put : PairListed lists left lists' left' m a b) where
      starts : T (starts_at P a m)
      starts = yes_eqb (sym ea)

      heads : (u : ℕ) → u < most_events → get_or lists'.first u 0 ≡ last (m + 1) (starts_at P u)
      heads u l =
          ⊎_elim
          (λ t.
          subst
          (λ (w : ℕ). get_or lists'.first w 0 ≡ last (m + 1) (starts_at P w))
          (eqb→eq a u t)
          (put.heads.here ∙ sym (last_here (starts_at P a) m starts)))
          (λ t.
          put.heads.others u (λ e. eqb_no t (sym e)) ∙ so_far.lists.heads u l
          ∙ sym
          (last_still (starts_at P u) m (λ s. eqb_no t (ea ∙ eqb→eq (P.earlier m) u s))))
          (decide (eqb a u))

      links : (i : ℕ) → i < m + 1 → get_or lists'.next i 0 ≡ last i (starts_at P (P.earlier i))
      links i l =
          below_next
          m
          i
          l
          (λ low. stored_below put.links i low ∙ so_far.lists.links i low)
          (λ e.
          subst
          (λ (j : ℕ). get_or lists'.next j 0 ≡ last j (starts_at P (P.earlier j)))
          (sym e)
          (put.links.here ∙ so_far.lists.heads a event ∙ ap (λ (u : ℕ). last m (starts_at P u)) ea))

      counts : (v : ℕ) → v < most_events → get_or left' v 0 ≡ count (m + 1) (waits_for P empty v)
      counts v l =
          omega (
            arith,
            raised put.counts v,
            so_far.waits.counts v l,
            count_more m (waits_for P empty v),
            ap (λ (x : Bool). on x 1) ends,
          )
        where
          ends : eqb b v ≡ waits_for P empty v m
          ends =
              same
              (eqb b v)
              (waits_for P empty v m)
              (λ t. yes_and (eqb (P.later m) v) (not false) (yes_eqb (sym eb ∙ eqb→eq b v t)) tt)
              (λ t. yes_eqb (eb ∙ eqb→eq (P.later m) v (and_yes (eqb (P.later m) v) (not false) t).0))

      pub listed_more : Listed P lists' left' (m + 1)
      listed_more = record { lists = record { heads = heads; links = links }; waits = record { counts = counts } }
