-- The sum of the first numbers of a row, as an iterator sums them.
use Rattle.std.proofs.Common.{ℕ, zero, suc, ◌+◌, ◌*◌, ◌≤◌, List, ◌≡◌, arith, add-one, ap, sym, ⊎_elim, ltb→lt, nltb→le, ltb}
use Rattle.std.proofs.Math.ListN.{length, take, get_or}
use Rattle.std.specs.List.{sum}
use Rattle.std.proofs.lemmas.List.{take_all, get_or_past}
use Rattle.std.proofs.lemmas.List.Sums.{sum_by_more}
use Rattle.finite.specs.Bounded.{decide}
use Rattle.finite.specs.Sum.{sum_of, sum_of_start, sum_of_more, sum_most}
use Rattle.least.specs.PlaceRows.{Small}

pub sum_taken : (xs : List ℕ) (n : ℕ) → sum (take n xs) ≡ sum_of xs n
sum_taken xs zero = sym (sum_of_start xs)
sum_taken xs (suc n) =
    let more = sum_of_more xs n in
    let before = sum_taken xs n in
    rw (← add-one)
    (⊎_elim
    (λ inside. omega (arith, sum_by_more (λ x. x) xs n 0 (ltb→lt n (length xs) inside), more, before))
    (λ past.
    let all = nltb→le n (length xs) past in
    omega (arith, ap sum (take_all (n + 1) xs (omega arith)), ap sum (take_all n xs all), get_or_past xs n 0 all, more, before))
    (decide (ltb n (length xs))))

pub small_total : (row : List ℕ) (n : ℕ) → Small row n → sum_of row n ≤ 1000 * n
unfolding sum_of
small_total row n s = sum_most n 1000 (λ i. get_or row i 0) s.most
