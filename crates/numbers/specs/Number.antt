-- Little-endian unsigned numbers in a list of bytes. Document 01, "The sheet".
use Rattle.std.specs.Prelude.{ℕ, zero, suc, ◌+◌, ◌*◌, ◌/◌, ◌%◌, ◌^◌, ◌≤◌, ◌<◌, List, [], ◌∷◌, ◌≡◌, refl, length, get_or, take}
use Rattle.std.proofs.Math.Nat.{mod-add-div}
use Rattle.std.proofs.Common.{div-lt_iff_lt-mul, zero-lt-suc, pow-suc, arith, add-one, sym, ap, subst, ◌∙◌, get_or-take}
use Rattle.finite.specs.Stands.{Bytes, Stands}

-- the number of k bytes at a position; a byte past the end counts as 0
unfoldable pub number : ℕ → List ℕ → ℕ → ℕ
number zero s at = 0
number (suc k) s at = get_or s at 0 + 256 * number k s (suc at)

-- the k bytes of a number, the lowest first
unfoldable pub bytes : ℕ → ℕ → List ℕ
bytes zero n = []
bytes (suc k) n = n % 256 ∷ bytes k (n / 256)

pub number_2 : (s : List ℕ) (at : ℕ) → number 2 s at ≡ get_or s at 0 + 256 * get_or s (at + 1) 0
unfolding number
number_2 s at = rw add-one (omega arith)

pub number_4 : (s : List ℕ) (at : ℕ) → number 4 s at ≡ number 2 s at + 65536 * number 2 s (at + 2)
unfolding number
number_4 s at = let two : at + 2 ≡ suc (suc at) = omega arith in rw two (omega arith)

-- a number within the first n bytes
pub number_take : (n k : ℕ) (s : List ℕ) (at : ℕ) → at + k ≤ n → number k (take n s) at ≡ number k s at
unfolding number
number_take n zero s at l = refl
number_take n (suc k) s at l =
    omega (arith, get_or-take n s at 0 (omega arith), number_take n k s (suc at) (omega arith))

-- ---- bytes that are written, and read again

pub bytes_length : (k n : ℕ) → length (bytes k n) ≡ k
unfolding bytes
bytes_length zero n = refl
bytes_length (suc k) n = ap suc (bytes_length k (n / 256))

pub bytes_bytes : (k n : ℕ) → Bytes (bytes k n)
unfolding bytes
bytes_bytes zero n i l = absurd (omega arith)
bytes_bytes (suc k) n zero l = omega arith
bytes_bytes (suc k) n (suc i) l = bytes_bytes k (n / 256) i (omega arith)

-- what stands after the first number of a list
stands_tail : (s : List ℕ) (at x : ℕ) (xs : List ℕ) → Stands s at (x ∷ xs) → Stands s (suc at) xs
stands_tail s at x xs here i l = let there : suc at + i ≡ at + suc i = omega arith in ap (λ (n : ℕ). get_or s n 0) there ∙ here (suc i) (omega arith)

-- Where the k bytes of a number stand, that number is read.
pub read_number : (k n : ℕ) (s : List ℕ) (at : ℕ) → n < 256 ^ k → Stands s at (bytes k n) → number k s at ≡ n
unfolding bytes number
read_number zero n s at l here = omega arith
read_number (suc k) n s at l here =
    let first : get_or s at 0 ≡ n % 256 = let z : at ≡ at + 0 = omega arith in ap (λ (i : ℕ). get_or s i 0) z ∙ here 0 (omega arith) in
    let fits : n / 256 < 256 ^ k = (div-lt_iff_lt-mul (zero-lt-suc 255)).1 (subst (λ (x : ℕ). n < x) (pow-suc 256 k) l) in
    let rest = read_number k (n / 256) s (suc at) fits (stands_tail s at (n % 256) (bytes k (n / 256)) here) in
    omega (arith, first, rest, mod-add-div n 256)

-- Where a number of k bytes is read, its bytes stand.
pub write_number : (k : ℕ) (s : List ℕ) (at : ℕ) → ((i : ℕ) → i < k → get_or s (at + i) 0 < 256) → Stands s at (bytes k (number k s at))
unfolding bytes number
write_number zero s at small i l = absurd (omega arith)
write_number (suc k) s at small zero l =
    let z : at + 0 ≡ at = omega arith in
    let low : get_or s at 0 < 256 = subst (λ (i : ℕ). get_or s i 0 < 256) z (small 0 (omega arith)) in
    ap (λ (i : ℕ). get_or s i 0) z ∙ omega (arith, low)
write_number (suc k) s at small (suc i) l =
    let rest = number k s (suc at) in
    let z : at + 0 ≡ at = omega arith in
    let low : get_or s at 0 < 256 = subst (λ (i : ℕ). get_or s i 0 < 256) z (small 0 (omega arith)) in
    let high : (get_or s at 0 + 256 * rest) / 256 ≡ rest = omega (arith, low) in
    let there : at + suc i ≡ suc at + i = omega arith in
    let below : i < length (bytes k rest) = omega (arith, bytes_length k rest, bytes_length k ((get_or s at 0 + 256 * rest) / 256)) in
    let smaller : (j : ℕ) → j < k → get_or s (suc at + j) 0 < 256 =
    λ j m. let next : at + suc j ≡ suc at + j = omega arith in subst (λ (n : ℕ). get_or s n 0 < 256) next (small (suc j) (omega arith)) in
    ap (λ (n : ℕ). get_or s n 0) there ∙ write_number k s (suc at) smaller i below ∙ ap (λ (n : ℕ). get_or (bytes k n) i 0) (sym high)
