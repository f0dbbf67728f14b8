-- The shares in a row as a list, and what they come to.
use Rattle.std.specs.Prelude.{ℕ, ◌+◌, ◌≤◌, List, [], ◌∷◌, ◌≡◌, length, get_or}
use Rattle.std.proofs.Common.{arith, sym, ap₂, ◌∙◌, zero-add, take, drop}
use Rattle.std.proofs.lemmas.List.{get_or-take, get_or-drop, length-take-le, length-drop}
use Rattle.std.proofs.lemmas.List.Sums.{sum_by_from}
use Rattle.std.specs.List.{sum}
use Rattle.finite.specs.Sum.{sum_start, sum_first, sum_ext, sum as sum_at}
use Rattle.flow_sums.specs.Sums.{shares_of}

total_of : (xs : List ℕ) → sum xs ≡ sum_at (length xs) (λ i. get_or xs i 0)
total_of [] = sym (sum_start _)
total_of (x ∷ xs) = sum_by_from (λ (m : ℕ). m) (0 + x) xs ∙ ap₂ ◌+◌ (zero-add x) (total_of xs) ∙ sym (sum_first (length xs) (λ i. get_or (x ∷ xs) i 0))

pub shares_in : (row : List ℕ) (pairs k n : ℕ) → k ≡ n → pairs + n ≤ length row → sum (take k (drop pairs row)) ≡ shares_of row pairs n
unfolding shares_of
shares_in row pairs k n e long =
    let size : length (take k (drop pairs row)) ≡ n = length-take-le k (drop pairs row) (omega (arith, e, length-drop pairs row)) ∙ e in
    total_of (take k (drop pairs row))
    ∙ rw size (sum_ext n _ _ (λ i l. get_or-take k (drop pairs row) i 0 (omega (arith, e)) ∙ get_or-drop pairs row i 0))
