-- What the counts in a list come to, in std's words for what goes over a list.
use Rattle.std.specs.Prelude.{ℕ, ◌+◌, ◌<◌, ◌≤◌, Bool, true, false, cond, List, [], ◌∷◌, ◌≡◌, ltb, length}
use Rattle.std.proofs.Common.{arith, sym, ap, ap₂, ◌∙◌, zero-add, take}
use Rattle.std.proofs.lemmas.List.{get_or-take, length-take-le}
use Rattle.std.proofs.lemmas.List.Sums.{sum_by_from}
use Rattle.std.specs.List.{sum, filter}
use Rattle.finite.specs.Sum.{sum_start, sum_first, sum_most, on}
use Rattle.summary.proofs.Laws.{values_agree}
use Rattle.summary.specs.Summary.{total_missing, short_places, count_at, values_of, MissingCounts, most_missing}

pub total_of : (xs : List ℕ) → sum xs ≡ total_missing (count_at xs) (length xs)
unfolding total_missing
total_of [] = sym (sum_start _)
total_of (x ∷ xs) = sum_by_from (λ (m : ℕ). m) (0 + x) xs ∙ ap₂ ◌+◌ (zero-add x) (total_of xs) ∙ sym (sum_first (length xs) (count_at (x ∷ xs)))

pub total_fits : (xs : List ℕ) → MissingCounts xs (length xs) → sum xs < 4294967296
unfolding total_missing
total_fits xs h = omega (arith, total_of xs, sum_most (length xs) most_missing (count_at xs) h.most, h.few)

-- what the test of one count adds
more : (b : Bool) (x : ℕ) (xs : List ℕ) → length (cond b (x ∷ xs) xs) ≡ on b 1 + length xs
more true x xs = omega arith
more false x xs = sym (zero-add (length xs))

pub short_of : (xs : List ℕ) → length (filter (ltb 0) xs) ≡ short_places (count_at xs) (length xs)
unfolding short_places
short_of [] = sym (sum_start _)
short_of (x ∷ xs) =
    more (ltb 0 x) x (filter (ltb 0) xs)
    ∙ ap (λ (k : ℕ). on (ltb 0 x) 1 + k) (short_of xs)
    ∙ sym (sum_first (length xs) (λ p. on (ltb 0 (count_at (x ∷ xs) p)) 1))

module _ (row : List ℕ) (n : ℕ) (long : n ≤ length row) where
  same_size : length (take n row) ≡ n
  same_size = length-take-le n row long

  -- the first counts of a row, as a list
  pub first_counts : values_of (count_at (take n row)) (length (take n row)) ≡ values_of (count_at row) n
  first_counts = ap (values_of (count_at (take n row))) same_size ∙ values_agree (count_at (take n row)) (count_at row) n (λ p l. get_or-take n row p 0 l)

  pub small_counts : MissingCounts row n → MissingCounts (take n row) (length (take n row))
  small_counts h =
      record {
        few = omega (arith, same_size, h.few);
        most = λ p l. omega (arith, same_size, get_or-take n row p 0 (omega (arith, same_size)), h.most p (omega (arith, same_size)));
      }
