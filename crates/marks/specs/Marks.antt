-- Rows of marks for up to 256 events: 8 words of 32 bits to a row, the rows one after another in a list of words.
use Rattle.std.specs.Prelude.{ℕ, ◌+◌, ◌*◌, ◌/◌, ◌%◌, ◌^◌, ◌≤◌, ◌<◌, Bool, false, not, ◌&&◌, ◌||◌, List, ◌≡◌, T, eqb, length, get_or, replicate}
use Rattle.std.proofs.Math.Nat.{zero-div}
use Rattle.std.proofs.Common.{ap, ◌∙◌}
use Rattle.ids.specs.Limits.{most_events, row_words}
use Rattle.finite.specs.Bounded.{any}
use Rattle.finite.specs.Row.{zeros}

-- the bits of a word
abbrev pub word_bits : ℕ
word_bits = 32

-- bit k of the word w
unfoldable pub bit : ℕ → ℕ → Bool
bit w k = eqb (w / 2 ^ k % 2) 1

-- r is the place of a bit of the word w
pub record SetBit (w r : ℕ) : Type 0 where
  pub within : r < word_bits
  pub set : T (bit w r)

-- the word that holds mark (i, j)
abbrev pub word_of : ℕ → ℕ → ℕ
word_of i j = i * row_words + j / word_bits

-- Mark (i, j) is bit j % 32 of word i * 8 + j / 32.
unfoldable pub marked : List ℕ → ℕ → ℕ → Bool
marked rows i j = bit (get_or rows (word_of i j) 0) (j % word_bits)

-- Row i lies within the words.
abbrev pub HasRow : List ℕ → ℕ → Type 0
HasRow rows i = i * row_words + row_words ≤ length rows

-- The first n rows lie within the words.
abbrev pub HasRows : List ℕ → ℕ → Type 0
HasRows rows n = n * row_words ≤ length rows

-- Row i of a and row j of b have a mark in common.
unfoldable pub meeting : List ℕ → ℕ → List ℕ → ℕ → Bool
meeting a i b j = any most_events (λ w. marked a i w && marked b j w)

-- The new marks are the old ones and (i, j).
pub record MarkAdded (old new : List ℕ) (i j : ℕ) : Type 0 where
  pub size : length new ≡ length old
  pub marks : (u v : ℕ) → v < most_events → marked new u v ≡ (marked old u v || (eqb u i && eqb v j))

-- The new marks are the old ones without (i, j).
pub record MarkRemoved (old new : List ℕ) (i j : ℕ) : Type 0 where
  pub size : length new ≡ length old
  pub marks : (u v : ℕ) → v < most_events → marked new u v ≡ (marked old u v && not (eqb u i && eqb v j))

-- The new row `into` is the union of the old rows `from` and `into`. Other rows are as before.
pub record RowJoined (old new : List ℕ) (from into : ℕ) : Type 0 where
  pub size : length new ≡ length old
  pub marks : (u v : ℕ) → v < most_events → marked new u v ≡ (marked old u v || (eqb u into && marked old from v))

pub bit_none : (k : ℕ) → bit 0 k ≡ false
unfolding bit
bit_none k = ap (λ (x : ℕ). eqb (x % 2) 1) (zero-div (2 ^ k))

-- words of 0 have no marks
pub none_marked : (n u v : ℕ) → marked (replicate n 0) u v ≡ false
unfolding marked
none_marked n u v = ap (λ (w : ℕ). bit w (v % word_bits)) (zeros n (word_of u v)) ∙ bit_none (v % word_bits)
