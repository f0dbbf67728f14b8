-- The marks of the kept pairs: they say whether the next pair is a repeat, and how they go on with it.
use Prim.Native.Nat.{ℕ, ◌+◌, ◌≤◌}
use native.Mathlib.Nat.{lt_of_lt_of_le}
use native.Mathlib.Numerals.{add-one}
use mathlib.Core.Bool.{Bool, true, false, not, ◌&&◌, ◌||◌}
use mathlib.Core.List.{List}
use mathlib.Core.Path.{◌≡◌, refl, sym, ap, ap₂, subst, ◌∙◌}
use denote.Floats.{is_true}
use lib.Dec.{T, eqb, eqb→eq}
use lib.ListN.{replicate}
use mir.Facts.{and_yes, yes_and, yes_eqb}
use Rattle.finite.specs.Bounded.{any, any_ext, same}
use Rattle.ids.specs.Limits.{most_events}
use Rattle.marks.specs.Marks.{marked, none_marked, MarkAdded}
use Rattle.sheet.specs.Faults.{no_event_at, self_pair_at, same_pair, repeat_at}
use Rattle.sheet.specs.Items.{earlier_at, later_at}
use Rattle.sheet.specs.Table.{events_of}
use Rattle.reasons.specs.KeptRows.{proper_at, is_proper, KeptRows, reason_by}
use Rattle.reasons.specs.Laws.{same_yes, yes_same}
use Rattle.reasons.proofs.Laws.{names_ends, same_names}
use Rattle.reasons.specs.Reasons.{reason, reason_at, names_two}

-- the third test counts only where the first two fail
reason_agrees : (x y p q : Bool) → (T (not x && not y) → p ≡ q) → reason x y p ≡ reason x y q
reason_agrees true y p q h = refl
reason_agrees false true p q h = refl
reason_agrees false false p q h = ap (λ (z : Bool). reason false false z) (h tt)

module _ (s : List ℕ) where
  pub rows_start : (n : ℕ) → KeptRows s 0 (replicate n 0)
  unfolding is_proper any
  rows_start n = record { marks = λ u v h. none_marked n u v }

  -- a pair that names two different events is among those so far exactly if it repeats one of them
  proper_repeats : (i : ℕ) → T (names_two s i) → is_proper s i (earlier_at s i) (later_at s i) ≡ repeat_at s i
  unfolding is_proper repeat_at
  proper_repeats i t =
      any_ext i _ _ (λ j l.
      same
      (proper_at s (earlier_at s i) (later_at s i) j)
      (same_pair s i j)
      (λ p.
      let both = and_yes (names_two s j) (eqb (earlier_at s i) (earlier_at s j) && eqb (later_at s i) (later_at s j)) p in
      let ends = and_yes (eqb (earlier_at s i) (earlier_at s j)) (eqb (later_at s i) (later_at s j)) both.1 in
      yes_same s i j (record { earlier = eqb→eq (earlier_at s i) (earlier_at s j) ends.0; later = eqb→eq (later_at s i) (later_at s j) ends.1 }))
      (λ p.
      let ends = same_yes s i j p in
      yes_and
      (names_two s j)
      (eqb (earlier_at s i) (earlier_at s j) && eqb (later_at s i) (later_at s j))
      (same_names s i j ends t)
      (yes_and (eqb (earlier_at s i) (earlier_at s j)) (eqb (later_at s i) (later_at s j)) (yes_eqb ends.earlier) (yes_eqb ends.later))))

  opened : (i : ℕ) → T (not (no_event_at s i) && not (self_pair_at s i)) → T (names_two s i)
  unfolding names_two
  opened i t = t

  -- the reason of the next pair, by the marks
  pub reason_marked : (i : ℕ) (succ : List ℕ) → KeptRows s i succ → events_of s ≤ most_events → (n a b : ℕ) → n ≡ events_of s → a ≡ earlier_at s i → b ≡ later_at s i
      → reason_by n succ a b ≡ reason_at s i
  unfolding reason_at no_event_at self_pair_at
  reason_marked i succ g few n a b en ea eb =
      rw (en, ea, eb)
      (reason_agrees
      (no_event_at s i)
      (self_pair_at s i)
      (marked succ (earlier_at s i) (later_at s i))
      (repeat_at s i)
      (λ t. g.marks (earlier_at s i) (later_at s i) (lt_of_lt_of_le (names_ends s i (opened i t)).1 few) ∙ proper_repeats i (opened i t)))

  -- one pair more
  more : (i u v : ℕ) → (is_proper s i u v || proper_at s u v i) ≡ is_proper s (i + 1) u v
  unfolding is_proper any
  more i u v = ap (λ (k : ℕ). is_proper s k u v) (sym (add-one i))

  pub rows_kept : (i : ℕ) (succ succ₁ : List ℕ) → KeptRows s i succ → T (names_two s i) → (a b : ℕ) → a ≡ earlier_at s i → b ≡ later_at s i → MarkAdded succ succ₁ a b → KeptRows s (i + 1) succ₁
  rows_kept i succ succ₁ g t a b ea eb added =
      record {
        marks = λ u v h.
            added.marks u v h
            ∙ ap₂ ◌||◌ (g.marks u v h) (ap₂ (λ (x y : ℕ). eqb u x && eqb v y) ea eb ∙ ap (λ (x : Bool). x && (eqb u (earlier_at s i) && eqb v (later_at s i))) (sym (is_true (names_two s i) t)))
            ∙ more i u v;
      }

  -- a test that adds nothing
  nothing_more : (x y : Bool) → (T y → T x) → x ≡ (x || y)
  nothing_more true y h = refl
  nothing_more false true h = absurd (h tt)
  nothing_more false false h = refl

  pub rows_dropped : (i : ℕ) (succ : List ℕ) → KeptRows s i succ → (T (names_two s i) → T (repeat_at s i)) → KeptRows s (i + 1) succ
  rows_dropped i succ g again =
      record { marks = λ u v h. g.marks u v h ∙ nothing_more (is_proper s i u v) (proper_at s u v i) (there u v) ∙ more i u v }
    where
      there : (u v : ℕ) → T (proper_at s u v i) → T (is_proper s i u v)
      there u v p =
          let both = and_yes (names_two s i) (eqb u (earlier_at s i) && eqb v (later_at s i)) p in
          let ends = and_yes (eqb u (earlier_at s i)) (eqb v (later_at s i)) both.1 in
          subst T (sym (ap₂ (is_proper s i) (eqb→eq u (earlier_at s i) ends.0) (eqb→eq v (later_at s i) ends.1) ∙ proper_repeats i both.0)) (again both.0)
