-- The bytes of a number, as std gives them.
use Rattle.std.specs.Prelude.{ℕ, List, ◌/◌, ◌≡◌, refl}
use Rattle.std.proofs.Common.{arith, w16, w32, ◌∙◌}
use Rattle.std.specs.Int.{to_le_bytes}
use Rattle.numbers.specs.Number.{bytes}
use Rattle.text.specs.Put.{Put, put_says}

two : (n : ℕ) → to_le_bytes w16 n ≡ bytes 2 n
unfolding bytes
two n = refl

four : (n : ℕ) → to_le_bytes w32 n ≡ bytes 4 n
unfolding bytes
four n =
    let third : n / 65536 ≡ n / 256 / 256 = omega arith in
    let fourth : n / 16777216 ≡ n / 256 / 256 / 256 = omega arith in rw (third, fourth) refl

module _ {old new : List ℕ} {at end : ℕ} {text : List ℕ} where
  pub put_two : (n : ℕ) → text ≡ to_le_bytes w16 n → Put old new at text end → Put old new at (bytes 2 n) end
  put_two n is put = put_says put (bytes 2 n) (is ∙ two n)

  pub put_four : (n : ℕ) → text ≡ to_le_bytes w32 n → Put old new at text end → Put old new at (bytes 4 n) end
  put_four n is put = put_says put (bytes 4 n) (is ∙ four n)
