-- Text put into a row of bytes at a position, with all else as it was.
use Rattle.std.specs.Prelude.{ℕ, suc, ◌+◌, ◌≤◌, ◌<◌, List, [], ◌∷◌, ◌++◌, ◌≡◌, refl, length, get_or, set, take, drop}
use Rattle.std.proofs.Common.{add-one, add-zero, add_assoc, arith, append_assoc, append-nil, sym, ap, subst, ◌∙◌, length-set, length-append, take-append-drop, length-take-le, take_at, drop_at, drop-drop, take-suc}
use Rattle.std.proofs.lemmas.List.{set_split}
use Rattle.std.proofs.Math.Seq.{append_snoc, take-length}

pub record Put (old new : List ℕ) (at : ℕ) (text : List ℕ) (end : ℕ) : Type 0 where
  pub is : new ≡ take at old ++ text ++ drop end old
  pub ends : end ≡ at + length text
  pub within : end ≤ length old
  pub size : length new ≡ length old

module _ (old new : List ℕ) (at : ℕ) (text : List ℕ) (end : ℕ) (h : Put old new at text end) where
  front : length (take at old ++ text) ≡ end
  front = simp length-append (omega (arith, h.ends, h.within, length-take-le at old (omega (arith, h.ends, h.within))))

  -- what stands up to the end, and after it
  pub put_front : take end new ≡ take at old ++ text
  put_front = ap (take end) h.is ∙ take_at (take at old ++ text) (drop end old) end front

  pub put_rest : drop end new ≡ drop end old
  put_rest = ap (drop end) h.is ∙ drop_at (take at old ++ text) (drop end old) end front

-- nothing put
pub put_none : (row : List ℕ) (at : ℕ) → at ≤ length row → Put row row at [] at
put_none row at l = record { is = sym (ap (λ (l : List ℕ). l ++ drop at row) (append-nil (take at row)) ∙ take-append-drop at row); ends = omega arith; within = l; size = refl }

-- one byte
pub put_byte : (row : List ℕ) (at b : ℕ) → at < length row → Put row (set row at b) at (b ∷ []) (at + 1)
put_byte row at b l =
    record {
      is =
          set_split row at b l
          ∙ sym (append_snoc (take at row) b (drop (suc at) row))
          ∙ ap (λ (n : ℕ). take at row ++ (b ∷ []) ++ drop n row) (sym (add-one at));
      ends = refl;
      within = omega arith;
      size = length-set row at b;
    }

-- one text after another
pub put_then : {old mid new : List ℕ} {at : ℕ} {text more : List ℕ} {between end : ℕ} → Put old mid at text between → Put mid new between more end → Put old new at (text ++ more) end
put_then {old} {mid} {new} {at} {text} {more} {between} {end} first second =
    record {
      is =
          second.is
          ∙ ap (λ (l : List ℕ). l ++ more ++ drop end mid) (put_front old mid at text between first)
          ∙ ap (λ (l : List ℕ). take at old ++ text ++ more ++ l) after
          ∙ simp append_assoc;
      ends = simp length-append (omega (arith, first.ends, second.ends));
      within = omega (arith, first.size, second.within);
      size = second.size ∙ first.size;
    }
  where
    after : drop end mid ≡ drop end old
    after =
        ap (λ (n : ℕ). drop n mid) second.ends
        ∙ sym (drop-drop (length more) between mid)
        ∙ ap (drop (length more)) (put_rest old mid at text between first)
        ∙ drop-drop (length more) between old
        ∙ ap (λ (n : ℕ). drop n old) (sym second.ends)

-- a text that was put, by what it says
pub put_says : {old new : List ℕ} {at : ℕ} {text : List ℕ} {end : ℕ} → Put old new at text end → (more : List ℕ) → text ≡ more → Put old new at more end
put_says put more e = rw e at put

-- A loop that puts a word byte by byte.
module _ (old : List ℕ) (at : ℕ) (word : List ℕ) where
  pub word_start : at ≤ length old → Put old old at (take 0 word) (at + 0)
  word_start l = rw add-zero (put_none old at l)

  pub word_more : (row : List ℕ) (i : ℕ) → at + i < length row → i < length word → Put old row at (take i word) (at + i)
      → Put old (set row (at + i) (get_or word i 0)) at (take (i + 1) word) (at + (i + 1))
  word_more row i l m h =
      rw (add-one, take-suc word i 0, ← add-one, ← add_assoc) (put_then h (put_byte row (at + i) (get_or word i 0) l))

  pub word_done : (row : List ℕ) (i : ℕ) → i ≤ length word → length word ≤ i → Put old row at (take i word) (at + i) → Put old row at word (at + length word)
  word_done row i l m h =
      let e : i ≡ length word = omega arith in
      subst (λ (text : List ℕ). Put old row at text (at + length word)) (take-length word) (subst (λ (n : ℕ). Put old row at (take n word) (at + n)) e h)
