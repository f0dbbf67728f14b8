-- What a search in two rows of marks answers.
use Rattle.std.specs.Prelude.{ℕ, ◌+◌, ◌*◌, ◌<◌, ◌≡◌, List, T, get_or, Option, Some, None}
use Rattle.std.proofs.Common.{⊎_elim, T_not}
use Rattle.ids.specs.Limits.{most_events, row_words}
use Rattle.finite.specs.Bounded.{decide}
use Rattle.marks.specs.Marks.{marked, word_bits, SetBit}

-- v is marked in row i of a and in row j of b.
pub record Both (a : List ℕ) (i : ℕ) (b : List ℕ) (j v : ℕ) : Type 0 where
  pub below : v < most_events
  pub first : T (marked a i v)
  pub second : T (marked b j v)

-- v is marked in row i of a and not in row j of b.
pub record Only (a : List ℕ) (i : ℕ) (b : List ℕ) (j v : ℕ) : Type 0 where
  pub below : v < most_events
  pub first : T (marked a i v)
  pub second : T (marked b j v) → ⊥

-- It is at a number with the property P, or no number has it.
abbrev pub Tells : (ℕ → Type 0) → Option ℕ → Type 0
Tells P (Some v) = P v
Tells P None = (v : ℕ) → P v → ⊥

-- x is what `meet` makes of word k of row i of a and word k of row j of b.
abbrev pub Met : (ℕ → ℕ → ℕ → Type 0) → List ℕ → ℕ → List ℕ → ℕ → ℕ → ℕ → Type 0
Met meet a i b j k x = meet (get_or a (i * row_words + k) 0) (get_or b (j * row_words + k) 0) x

-- It is at a bit of the word at some k, or each word is 0.
abbrev pub ShownAt : (ℕ → ℕ → Type 0) → Option ℕ → Type 0
ShownAt word (Some v) = (k x r : ℕ) × (k < row_words) × word k x × SetBit x r × (v ≡ k * word_bits + r)
ShownAt word None = (k : ℕ) → k < row_words → word k 0

-- It is at a mark of the words that `meet` makes of two rows, or they have none.
pub record Shown (meet : ℕ → ℕ → ℕ → Type 0) (a : List ℕ) (i : ℕ) (b : List ℕ) (j : ℕ) (o : Option ℕ) : Type 0 where
  pub at : ShownAt (Met meet a i b j) o

-- where nothing is found, row j of b has all marks of row i of a
pub none_only : (a : List ℕ) (i : ℕ) (b : List ℕ) (j : ℕ) → ((v : ℕ) → Only a i b j v → ⊥)
    → (v : ℕ) → v < most_events → T (marked a i v) → T (marked b j v)
none_only a i b j none v h t =
    ⊎_elim
    (λ y. y)
    (λ n. absurd (none v (record { below = h; first = t; second = T_not (marked b j v) n })))
    (decide (marked b j v))
