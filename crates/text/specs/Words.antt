-- Text as bytes: words and decimal numbers.
use Rattle.std.specs.Prelude.{ℕ, zero, suc, ◌+◌, ◌/◌, ◌%◌, true, false, List, [], ◌∷◌, ◌++◌, ◌≡◌, refl, ltb, ℤ, pos, negsuc}
use Prim.Native.Char.{code}
use Prim.Native.String.{String, [] as end, ◌∷◌ as ◌then◌}

-- the bytes of a word of plain characters, one each
unfoldable pub word : String → List ℕ
word end = []
word (c then s) = code c ∷ word s

-- the digit of a number below 10
abbrev pub digit : ℕ → List ℕ
digit d = (48 + d) ∷ []

-- The digits of a number, the first of them first: those of its quotient by 10, then its remainder. The bound is any number not below it.
unfoldable pub digits : ℕ → ℕ → List ℕ
digits zero n = digit n
digits (suc bound) n = elim (ltb n 10) [ true ↦ digit n | false ↦ digits bound (n / 10) ++ digit (n % 10) ]

unfoldable pub decimal : ℕ → List ℕ
decimal n = digits n n

-- a number with its sign, where it is below 0
unfoldable pub signed : ℤ → List ℕ
signed (pos n) = decimal n
signed (negsuc n) = word "-" ++ decimal (suc n)

examples :
    (word "plan 3\n" ≡ 112 ∷ 108 ∷ 97 ∷ 110 ∷ 32 ∷ 51 ∷ 10 ∷ [])
    × (decimal 0 ≡ word "0") × (decimal 9 ≡ word "9") × (decimal 10 ≡ word "10") × (decimal 1256000 ≡ word "1256000") × (signed (negsuc 0) ≡ word "-1")
unfolding word digits decimal signed
examples = (refl, refl, refl, refl, refl, refl)
