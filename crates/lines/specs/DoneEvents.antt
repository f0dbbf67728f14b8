-- The events of a set put one after another, or `none`.
use Rattle.std.specs.Prelude.{ℕ, zero, suc, ◌<◌, Bool, true, false, cond, ◌||◌, List, [], ◌∷◌, ◌++◌, ◌≡◌, refl}
use Rattle.std.proofs.Math.Nat.{le_step}
use Rattle.std.proofs.Common.{lt-suc_self, suc-ne-zero, arith, sym, ap, ap₂, length-append}
use Rattle.std.proofs.Math.ListN.{length}
use Rattle.finite.specs.Bounded.{any}
use Rattle.finite.specs.Each.{each}
use Rattle.finite.specs.Subset.{Set}
use Rattle.finite.specs.Search.{search_none}
use Rattle.text.specs.Words.{word, decimal}
use Rattle.text.specs.Put.{Put}
use Rattle.text.specs.Putting.{◌then◌}
use Rattle.lines.specs.Listing.{field, event_in, done_events}

-- Nothing is put exactly if the set has no event.
field_some : (v : ℕ) → 0 < length (field " " v)
unfolding word
field_some v = omega (arith, length-append (word " ") (decimal v))

snoc_none : (xs : List ℕ) (b : Bool) (x : List ℕ) → 0 < length x → length (xs ++ cond b x []) ≡ 0 → (length xs ≡ 0) × (b ≡ false)
snoc_none xs true x l e = absurd (omega (arith, length-append xs x))
snoc_none xs false x l e = (omega (arith, length-append xs []), refl)

pub each_none : (n : ℕ) (D : Set) → length (each n (event_in D)) ≡ 0 → any n D ≡ false
unfolding each any
each_none zero D e = refl
each_none (suc n) D e =
    let both = snoc_none (each n (event_in D)) (D n) (field " " n) (field_some n) e in
    ap₂ ◌||◌ (each_none n D both.0) both.1

each_empty : (n : ℕ) (f : ℕ → List ℕ) → ((i : ℕ) → i < n → f i ≡ []) → each n f ≡ []
unfolding each
each_empty zero f h = refl
each_empty (suc n) f h = ap₂ ◌++◌ (each_empty n f (λ i l. h i (le_step l))) (h n (lt-suc_self n))

pub each_some : (n : ℕ) (D : Set) → ¬ (length (each n (event_in D)) ≡ 0) → any n D ≡ true
each_some n D some = go (any n D) refl
  where
    go : (b : Bool) → any n D ≡ b → any n D ≡ true
    go true e = e
    go false e =
        absurd (some (ap length (each_empty n (event_in D) (λ v l. ap (λ (b : Bool). cond b (field " " v) []) (search_none n D e v l)))))

-- The events of a set or `none`, by whether anything was put.
empty : (xs : List ℕ) → length xs ≡ 0 → xs ≡ []
empty [] e = refl
empty (x ∷ xs) e = absurd (suc-ne-zero (length xs) e)

module _ {old mid : List ℕ} {at between : ℕ} (n : ℕ) (D : Set) (put : Put old mid at (each n (event_in D)) between) where
  pub done_none : {new : List ℕ} {end : ℕ} → between ≡ at → Put mid new at (word " none") end → Put old new at (done_events n D) end
  unfolding done_events
  done_none e none =
      let e₀ : length (each n (event_in D)) ≡ 0 = omega (arith, put.ends) in
      rw (each_none n D e₀) (rw (empty (each n (event_in D)) e₀) at put then rw (sym e) at none)

  pub done_some : ¬ (between ≡ at) → Put old mid at (done_events n D) between
  unfolding done_events
  done_some e = rw (each_some n D (λ z. e (omega (arith, put.ends)))) put
