-- Pair after pair: the reasons so far are written, those that name two different events are marked, and the kept ones are put into rows and counted.
use Prim.Native.Nat.{ℕ, ◌+◌, ◌<◌, ◌≤◌}
use native.Mathlib.Omega.{arith}
use mathlib.Core.Bool.{true, false}
use mathlib.Core.List.{List}
use mathlib.Core.Logic.{⊎_elim}
use mathlib.Core.Path.{◌≡◌, refl, sym, ap, subst, subst₂, ◌∙◌}
use denote.Floats.{is_true}
use lib.Dec.{T, eqb, eqb→eq}
use lib.Ieee.Bits.{is_false}
use lib.ListN.{length, get_or, set, replicate}
use mir.Facts.{eqb_no, not_T}
use Rattle.finite.specs.Bounded.{decide}
use Rattle.finite.specs.Chosen.{chosen}
use Rattle.finite.proofs.Chosen.{chosen_length, chosen_more, chosen_same, chosen_next, chosen_old}
use Rattle.finite.specs.Filled.{Filled, filled_none, filled_more}
use Rattle.finite.specs.Queue.{Stored, below_next, stored_below}
use Rattle.sheet.specs.Faults.{repeat_at}
use Rattle.sheet.specs.Items.{earlier_at, later_at}
use Rattle.reasons.specs.KeptRows.{KeptRows, HoldsKept, KeptOrDropped}
use Rattle.reasons.specs.declared.KeptPairs.{KeptPairs}
use Rattle.reasons.proofs.Laws.{kept_names, names_kept, kept_0}
use Rattle.reasons.specs.Reasons.{reason_at, kept, names_two}
use Rattle.reasons.proofs.Rows.{rows_start, rows_kept, rows_dropped}

not_kept : (s : List ℕ) (i : ℕ) → ¬ (reason_at s i ≡ 0) → kept s i ≡ false
unfolding kept
not_kept s i some = is_false (kept s i) (not_T (kept s i) (λ t. some (eqb→eq (reason_at s i) 0 t)))

pub record SoFar (s old reasons succ : List ℕ) (pairs : KeptPairs) (i : ℕ) : Type 0 where
  pub written : Filled (reason_at s) i old reasons
  pub marked : KeptRows s i succ
  pub holds : HoldsKept s i pairs.from pairs.to
  pub counted : pairs.count ≡ length (chosen i (kept s))

module _ (s : List ℕ) where
  holds_start : (from to : List ℕ) → HoldsKept s 0 from to
  unfolding chosen
  holds_start from to = record { earlier = λ k l. absurd (omega arith); later = λ k l. absurd (omega arith) }

  -- a row has one end of each of the pairs
  Ends : List ℕ → (ℕ → ℕ) → List ℕ → Type 0
  Ends row of ks = (k : ℕ) → k < length ks → get_or row k 0 ≡ of (get_or ks k 0)

  module _ (i : ℕ) (from to : List ℕ) (h : HoldsKept s i from to) where
    holds_same : kept s i ≡ false → HoldsKept s (i + 1) from to
    unfolding Ends
    holds_same e =
        let back = sym (chosen_same (kept s) i e) in
        record { earlier = subst (Ends from (earlier_at s)) back h.earlier; later = subst (Ends to (later_at s)) back h.later }

    -- one end of the new pair is behind those of the others
    put_end : (of : ℕ → ℕ) (old new : List ℕ) → kept s i ≡ true → Stored old new (length (chosen i (kept s))) (of i)
        → Ends old of (chosen i (kept s)) → Ends new of (chosen (i + 1) (kept s))
    unfolding Ends
    put_end of old new e put so_far k l =
        below_next
        (length (chosen i (kept s)))
        k
        (omega (arith, chosen_more (kept s) i e))
        (λ low. stored_below put k low ∙ so_far k low ∙ ap of (sym (chosen_old (kept s) i k low)))
        (λ end.
        subst
        (λ (j : ℕ). get_or new j 0 ≡ of (get_or (chosen (i + 1) (kept s)) j 0))
        (sym end)
        (put.here ∙ ap of (sym (chosen_next (kept s) i e))))

    holds_more : {from₁ to₁ : List ℕ} → kept s i ≡ true → Stored from from₁ (length (chosen i (kept s))) (earlier_at s i)
        → Stored to to₁ (length (chosen i (kept s))) (later_at s i) → HoldsKept s (i + 1) from₁ to₁
    unfolding Ends
    holds_more {from₁} {to₁} e first second =
        record { earlier = put_end (earlier_at s) from from₁ e first h.earlier; later = put_end (later_at s) to to₁ e second h.later }

module _ (s old : List ℕ) where
  pub so_far_start : (pairs : KeptPairs) (n : ℕ) → pairs.count ≡ 0 → SoFar s old old (replicate n 0) pairs 0
  unfolding chosen
  so_far_start pairs n none =
      record { written = filled_none (reason_at s) 0 old refl; marked = rows_start s n; holds = holds_start s pairs.from pairs.to; counted = none }

  pub so_far_more : (reasons succ succ₁ : List ℕ) (pairs pairs₁ : KeptPairs) (i a b r : ℕ) → SoFar s old reasons succ pairs i → i < length reasons
      → a ≡ earlier_at s i → b ≡ later_at s i → r ≡ reason_at s i → KeptOrDropped succ succ₁ pairs pairs₁ a b r → SoFar s old (set reasons i r) succ₁ pairs₁ (i + 1)
  so_far_more reasons succ succ₁ pairs pairs₁ i a b r h l ea eb er next =
      ⊎_elim
      (λ t.
      let zero_is = eqb→eq (reason_at s i) 0 t in
      let keeps = next.keeps (er ∙ zero_is) in
      let is_kept = kept_0 s i zero_is in
      record {
        written = rw er (filled_more (reason_at s) i old reasons l h.written);
        marked = rows_kept s i succ succ₁ h.marked (kept_names s i is_kept).0 a b ea eb keeps.0;
        holds =
            holds_more
            s
            i
            pairs.from
            pairs.to
            h.holds
            (is_true (kept s i) is_kept)
            (subst₂ (Stored pairs.from pairs₁.from) h.counted ea keeps.1.earlier)
            (subst₂ (Stored pairs.to pairs₁.to) h.counted eb keeps.1.later);
        counted = omega (arith, h.counted, keeps.1.more, chosen_more (kept s) i (is_true (kept s i) is_kept));
      })
      (λ t.
      let some = eqb_no t in
      let drops = next.drops (λ e. some (sym er ∙ e)) in
      record {
        written = rw er (filled_more (reason_at s) i old reasons l h.written);
        marked = rw drops.0 (rows_dropped s i succ h.marked (again some));
        holds = rw drops.1 (holds_same s i pairs.from pairs.to h.holds (not_kept s i some));
        counted = rw drops.1 (h.counted ∙ sym (ap length (chosen_same (kept s) i (not_kept s i some))));
      })
      (decide (eqb (reason_at s i) 0))
    where
      again : ¬ (reason_at s i ≡ 0) → T (names_two s i) → T (repeat_at s i)
      again some t = ⊎_elim (λ yes. yes) (λ no. absurd (some (names_kept s i t (is_false (repeat_at s i) no)))) (decide (repeat_at s i))

  pub so_far_few : (reasons succ : List ℕ) (pairs : KeptPairs) (i : ℕ) → SoFar s old reasons succ pairs i → pairs.count ≤ i
  so_far_few reasons succ pairs i h = omega (arith, h.counted, chosen_length (kept s) i)

  pub so_far_all : (reasons succ : List ℕ) (pairs : KeptPairs) (i n : ℕ) → SoFar s old reasons succ pairs i → i ≡ n → SoFar s old reasons succ pairs n
  so_far_all reasons succ pairs i n h e = rw e at h
