-- How many bits a word has, and how many marks a row.
use Rattle.std.specs.Prelude.{ℕ, List}
use Rattle.finite.specs.Count.{count}
use Rattle.ids.specs.Limits.{most_events}
use Rattle.marks.specs.Marks.{word_bits, bit, marked}

abbrev pub bits_of : ℕ → ℕ
bits_of w = count word_bits (bit w)

abbrev pub marks_of : List ℕ → ℕ → ℕ
marks_of rows i = count most_events (marked rows i)
