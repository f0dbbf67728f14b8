-- What storing one word does to the marks: a mark is added or removed, or a row joined word by word.
use Prim.Native.Nat.{ℕ, ◌+◌, ◌-◌, ◌*◌, ◌/◌, ◌%◌, ◌^◌, ◌≤◌, ◌<◌}
use native.Mathlib.Omega.{arith}
use mathlib.Core.Bool.{Bool, true, false, not, ◌&&◌, ◌||◌, and-true, and-false, or-false, or_self}
use mathlib.Core.List.{List}
use mathlib.Core.Logic.{⊎_elim}
use mathlib.Core.Path.{◌≡◌, refl, sym, ap, subst, ◌∙◌}
use borrow.Author.Tests.{eq-eqb, ne_eqb, lt-ltb, le-ltb}
use lib.Arith.{digits_div, digits_mod}
use lib.Bits.{bit_and, bit_or}
use lib.Dec.{T, eqb, ltb, eqb→eq, ltb→lt, lit<}
use lib.ListN.{length, get_or, set, take, drop, length-set}
use Rattle.std.proofs.lemmas.List.{get_or-take, get_or-drop, length-take, length-drop}
use lib.Pow.{shl_exact}
use lib.Seq.{get_or-set_same, get_or-set_other}
use mir.Facts.{and_yes, yes_and, yes_eqb, yes_ltb, eqb_no}
use Rattle.finite.specs.Bounded.{decide, same}
use Rattle.marks.specs.Marks.{bit, marked, word_of, HasRow, MarkAdded, MarkRemoved, RowJoined}
use Rattle.marks.proofs.Bits.{bit_and_not, bit_or_lem, bit_one}

-- The bits after the word at p is changed by f, where f keeps a bit that meets no x.
word_change : (f : Bool → Bool → Bool) → ((b : Bool) → f b false ≡ b) → (rows : List ℕ) (p y q k : ℕ) (x : Bool) → p < length rows
    → bit y k ≡ f (bit (get_or rows p 0) k) x → bit (get_or (set rows p y) q 0) k ≡ f (bit (get_or rows q 0) k) (eqb q p && x)
word_change f keeps rows p y q k x h e = ⊎_elim at_it elsewhere (decide (eqb q p))
  where
    After : ℕ → Type 0
    After i = bit (get_or (set rows p y) i 0) k ≡ f (bit (get_or rows i 0) k) (eqb i p && x)

    here : After p
    here = rw (get_or-set_same rows p y 0 h, eq-eqb p p refl) e

    at_it : T (eqb q p) → After q
    at_it t = subst After (sym (eqb→eq q p t)) here

    elsewhere : T (not (eqb q p)) → After q
    elsewhere t =
        rw (get_or-set_other rows p q y 0 (eqb_no t), ne_eqb q p (eqb_no t)) (sym (keeps (bit (get_or rows q 0) k)))

-- the bits after x is united into the word at p
word_or : (rows : List ℕ) (p x q k : ℕ) → p < length rows
    → bit (get_or (set rows p (bit_or (get_or rows p 0) x)) q 0) k ≡ (bit (get_or rows q 0) k || (eqb q p && bit x k))
word_or rows p x q k h =
    word_change ◌||◌ or-false rows p (bit_or (get_or rows p 0) x) q k (bit x k) h (bit_or_lem (get_or rows p 0) x k)

-- a, unless it is removed
without : Bool → Bool → Bool
without a x = a && not x

-- the bits after those of x are removed from the word at p
word_without : (rows : List ℕ) (p x q k : ℕ) → p < length rows → x < 2 ^ 32 → k < 32
    → bit (get_or (set rows p (bit_and (get_or rows p 0) ((2 ^ 32 - 1) - x))) q 0) k ≡ (bit (get_or rows q 0) k && not (eqb q p && bit x k))
unfolding without
word_without rows p x q k h hx l =
    word_change
    without
    and-true
    rows
    p
    (bit_and (get_or rows p 0) ((2 ^ 32 - 1) - x))
    q
    k
    (bit x k)
    h
    (bit_and_not (get_or rows p 0) x k hx l)

-- the mark at a word and a bit
pub word_mark : (rows : List ℕ) (i q t : ℕ) → t < 32 → bit (get_or rows (i * 8 + q) 0) t ≡ marked rows i (q * 32 + t)
unfolding marked
word_mark rows i q t h = rw (digits_div q {m = 32} h, digits_mod q {m = 32} h)

-- the place of a mark tells its row and its column
place : (u v i j : ℕ) → v < 256 → j < 256 → (eqb (word_of u v) (word_of i j) && eqb (v % 32) (j % 32)) ≡ (eqb u i && eqb v j)
place u v i j hv hj = same (eqb (word_of u v) (word_of i j) && eqb (v % 32) (j % 32)) (eqb u i && eqb v j) to from
  where
    both : (a b c d : ℕ) → a ≡ b → c ≡ d → T (eqb a b && eqb c d)
    both a b c d e f = yes_and (eqb a b) (eqb c d) (yes_eqb e) (yes_eqb f)

    to : T (eqb (word_of u v) (word_of i j) && eqb (v % 32) (j % 32)) → T (eqb u i && eqb v j)
    to t =
        let h = and_yes (eqb (word_of u v) (word_of i j)) (eqb (v % 32) (j % 32)) t in
        let word = eqb→eq (word_of u v) (word_of i j) h.0 in
        let digit = eqb→eq (v % 32) (j % 32) h.1 in
        both u i v j (omega arith) (omega arith)

    from : T (eqb u i && eqb v j) → T (eqb (word_of u v) (word_of i j) && eqb (v % 32) (j % 32))
    from t =
        let h = and_yes (eqb u i) (eqb v j) t in
        let row = eqb→eq u i h.0 in
        let column = eqb→eq v j h.1 in
        both (word_of u v) (word_of i j) (v % 32) (j % 32) (omega arith) (omega arith)

-- the word with the one bit of the column j
column_bit : ℕ → ℕ
column_bit j = 1 * 2 ^ (j % 32) % 2 ^ 32

column_bit_lem : (j k : ℕ) → bit (column_bit j) k ≡ eqb k (j % 32)
unfolding column_bit
column_bit_lem j k = ap (λ (x : ℕ). bit x k) (shl_exact 1 (j % 32) 32 (lit< tt) (omega arith)) ∙ bit_one (j % 32) k

pub mark_added : (rows : List ℕ) (i j : ℕ) → HasRow rows i → j < 256
    → MarkAdded rows (set rows (word_of i j) (bit_or (get_or rows (word_of i j) 0) (1 * 2 ^ (j % 32) % 2 ^ 32))) i j
unfolding marked column_bit
mark_added rows i j h hj =
    record {
      size = simp length-set;
      marks = λ u v hv.
          word_or rows (word_of i j) (column_bit j) (word_of u v) (v % 32) (omega arith)
          ∙ ap (λ (b : Bool). marked rows u v || (eqb (word_of u v) (word_of i j) && b)) (column_bit_lem j (v % 32))
          ∙ ap (λ (b : Bool). marked rows u v || b) (place u v i j hv hj);
    }

pub mark_removed : (rows : List ℕ) (i j : ℕ) → HasRow rows i → j < 256
    → MarkRemoved rows (set rows (word_of i j) (bit_and (get_or rows (word_of i j) 0) ((2 ^ 32 - 1) - 1 * 2 ^ (j % 32) % 2 ^ 32))) i j
unfolding marked column_bit
mark_removed rows i j h hj =
    record {
      size = simp length-set;
      marks = λ u v hv.
          word_without rows (word_of i j) (column_bit j) (word_of u v) (v % 32) (omega arith) (omega arith) (omega arith)
          ∙ ap (λ (b : Bool). marked rows u v && not (eqb (word_of u v) (word_of i j) && b)) (column_bit_lem j (v % 32))
          ∙ ap (λ (b : Bool). marked rows u v && not b) (place u v i j hv hj);
    }

-- k words of the row `from` have been united into the row `into`
pub record Joining (old new : List ℕ) (from into k : ℕ) : Type 0 where
  pub size : length new ≡ length old
  pub marks : (u v : ℕ) → v < 256 → marked new u v ≡ (marked old u v || (eqb u into && (ltb (v / 32) k && marked old from v)))

pub start : (rows : List ℕ) (from into k : ℕ) → k ≡ 0 → Joining rows rows from into k
start rows from into k none =
    record { size = refl; marks = λ u v h. rw (le-ltb (v / 32) k (omega arith)) (simp (and-false, or-false)) }

-- One word more, as a test: q says that it is the mark's word, l and m that the mark's word is among the first k, or k + 1.
one_more : (a e l f q x m : Bool) → (T q → T e) → (T q → T m) → (T q → x ≡ f) → (T (not q) → T e → l ≡ m)
    → ((a || (e && (l && f))) || (q && x)) ≡ (a || (e && (m && f)))
one_more true e l f q x m h1 h2 h3 h4 = refl
one_more false false l f true x m h1 h2 h3 h4 = absurd (h1 tt)
one_more false true l f true x false h1 h2 h3 h4 = absurd (h2 tt)
one_more false true true f true x true h1 h2 h3 h4 = ap (λ (b : Bool). f || b) (h3 tt) ∙ or_self f
one_more false true false f true x true h1 h2 h3 h4 = h3 tt
one_more false false l f false x m h1 h2 h3 h4 = refl
one_more false true l f false x m h1 h2 h3 h4 = or-false (l && f) ∙ ap (λ (b : Bool). b && f) (h4 tt tt)

-- the word that is read has not changed, also where both rows are the same
unchanged : (old new : List ℕ) (from into k v : ℕ) → v < 256 → v / 32 ≡ k → Joining old new from into k
    → bit (get_or new (from * 8 + k) 0) (v % 32) ≡ marked old from v
unfolding marked
unchanged old new from into k v h e g =
    ap (λ (d : ℕ). bit (get_or new (from * 8 + d) 0) (v % 32)) (sym e) ∙ g.marks from v h
    ∙ rw (le-ltb (v / 32) k (omega arith)) (simp (and-false, or-false))

ltb_other : (d k : ℕ) → (d ≡ k → ⊥) → ltb d k ≡ ltb d (k + 1)
ltb_other d k ne =
    same
    (ltb d k)
    (ltb d (k + 1))
    (λ t. yes_ltb {a = d} {b = k + 1} (omega (arith, ltb→lt d k t)))
    (λ t. yes_ltb {a = d} {b = k} (omega (arith, ltb→lt d (k + 1) t, ne)))

-- one word more, by where it is stored and what
pub more : (old new : List ℕ) (from into k at word : ℕ) → HasRow old into → k < 8 → Joining old new from into k → at ≡ into * 8 + k
    → word ≡ bit_or (get_or new (into * 8 + k) 0) (get_or new (from * 8 + k) 0) → Joining old (set new at word) from into (k + 1)
unfolding marked
more old new from into k at word h hk g there stored =
    rw (there, stored)
    record {
      size = simp length-set g.size;
      marks = λ u v hv.
          let here = eqb (word_of u v) (into * 8 + k) in
          let source = bit (get_or new (from * 8 + k) 0) (v % 32) in
          let same_word : T here → word_of u v ≡ into * 8 + k = eqb→eq (word_of u v) (into * 8 + k) in
          word_or new (into * 8 + k) (get_or new (from * 8 + k) 0) (word_of u v) (v % 32) (omega (arith, g.size))
          ∙ ap (λ (b : Bool). b || (here && source)) (g.marks u v hv)
          ∙ one_more
          (marked old u v)
          (eqb u into)
          (ltb (v / 32) k)
          (marked old from v)
          here
          source
          (ltb (v / 32) (k + 1))
          (λ q. yes_eqb {a = u} {b = into} (omega (arith, same_word q)))
          (λ q. yes_ltb {a = v / 32} {b = k + 1} (omega (arith, same_word q)))
          (λ q. unchanged old new from into k v hv (omega (arith, same_word q)) g)
          (λ n e. ltb_other (v / 32) k (λ d. eqb_no {a = word_of u v} {b = into * 8 + k} n (omega (arith, eqb→eq u into e))));
    }

pub done : (old new : List ℕ) (from into k : ℕ) → 8 ≤ k → Joining old new from into k → RowJoined old new from into
done old new from into k e g =
    record {
      size = g.size;
      marks = λ u v h. g.marks u v h ∙ rw (lt-ltb (v / 32) k (omega arith)) refl;
    }

-- the words of a row
abbrev pub row_part : List ℕ → ℕ → List ℕ
row_part rows i = take ((i + 1) * 8 - i * 8) (drop (i * 8) rows)

pub part_long : (rows : List ℕ) (i : ℕ) → HasRow rows i → length (row_part rows i) ≡ 8
part_long rows i has = omega (arith, has, length-take ((i + 1) * 8 - i * 8) (drop (i * 8) rows), length-drop (i * 8) rows)

pub part_word : (rows : List ℕ) (i k : ℕ) → k < 8 → get_or (row_part rows i) k 0 ≡ get_or rows (i * 8 + k) 0
part_word rows i k l = get_or-take ((i + 1) * 8 - i * 8) (drop (i * 8) rows) k 0 (omega (arith, l)) ∙ get_or-drop (i * 8) rows k 0
