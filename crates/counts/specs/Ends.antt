-- The end count of a place of a sheet as what all events give, with the opening count, less what they take.
use Rattle.std.specs.Prelude.{ℕ, ◌+◌, ◌≤◌, List, ◌≡◌}
use Rattle.std.proofs.Common.{arith, ◌∙◌}
use Rattle.std.proofs.Math.Path.{sym, ap}
use Rattle.std.proofs.Math.IntN.{sub_ℕ}
use Rattle.finite.specs.Sum.{sum, over_full, sum_start, sum_more}
use Rattle.plan.specs.Prefix.{tokens, end_count}
use Rattle.theory.specs.Signs.{tokens_minus}
use Rattle.sheet.specs.Table.{events_of}
use Rattle.sheet.specs.Items.{opening_at, takes_at, gives_at, label_at, net_of, plan_of}

-- what the first n events give to the place, with its opening count, and what they take from it
unfoldable pub gained_by : List ℕ → ℕ → ℕ → ℕ
gained_by s p n = opening_at s p + sum n (λ v. gives_at s (label_at s v) p)

unfoldable pub lost_by : List ℕ → ℕ → ℕ → ℕ
lost_by s p n = sum n (λ v. takes_at s (label_at s v) p)

-- what all events do
abbrev pub gained_at : List ℕ → ℕ → ℕ
gained_at s p = gained_by s p (events_of s)

abbrev pub lost_at : List ℕ → ℕ → ℕ
lost_at s p = lost_by s p (events_of s)

pub end_is : (s : List ℕ) (p : ℕ) → end_count (net_of s) (plan_of s) p ≡ sub_ℕ (gained_at s p) (lost_at s p)
unfolding end_count tokens gained_by lost_by
end_is s p = simp over_full (tokens_minus (opening_at s p) (sum (events_of s) (λ v. gives_at s (label_at s v) p)) (sum (events_of s) (λ v. takes_at s (label_at s v) p)))

-- What a loop knows that adds one event after another.
module _ (s : List ℕ) (p : ℕ) where
  pub gained_start : (x : ℕ) → x ≡ opening_at s p → x ≡ gained_by s p 0
  unfolding gained_by
  gained_start x read = omega (arith, sum_start (λ v. gives_at s (label_at s v) p))

  pub gained_more : (v t given sum : ℕ) → t ≡ label_at s v → given ≡ gives_at s t p → sum ≡ gained_by s p v → sum + given ≡ gained_by s p (v + 1)
  unfolding gained_by
  gained_more v t given sum label gives so_far =
      omega (arith, sum_more v (λ w. gives_at s (label_at s w) p), gives ∙ ap (λ (x : ℕ). gives_at s x p) label, so_far)

  pub lost_start : 0 ≡ lost_by s p 0
  unfolding lost_by
  lost_start = sym (sum_start (λ v. takes_at s (label_at s v) p))

  pub lost_more : (v t taken sum : ℕ) → t ≡ label_at s v → taken ≡ takes_at s t p → sum ≡ lost_by s p v → sum + taken ≡ lost_by s p (v + 1)
  unfolding lost_by
  lost_more v t taken sum label takes so_far =
      omega (arith, sum_more v (λ w. takes_at s (label_at s w) p), takes ∙ ap (λ (x : ℕ). takes_at s x p) label, so_far)

  -- once all n events are passed
  pub gained_all : (v n sum : ℕ) → n ≡ events_of s → v ≤ n → n ≤ v → sum ≡ gained_by s p v → sum ≡ gained_at s p
  gained_all v n sum all l k so_far = let same : v ≡ events_of s = omega arith in rw same at so_far

  pub lost_all : (v n sum : ℕ) → n ≡ events_of s → v ≤ n → n ≤ v → sum ≡ lost_by s p v → sum ≡ lost_at s p
  lost_all v n sum all l k so_far = let same : v ≡ events_of s = omega arith in rw same at so_far
