-- What the verdict says, and that counts which agree come to the same.
use Rattle.std.specs.Prelude.{ℕ, ◌<◌, Bool, ◌↔◌, ◌≡◌, ltb}
use Rattle.std.proofs.Common.{arith, lt-ltb, le-ltb, ltb→lt}
use Rattle.std.proofs.Math.Logic.{⊎_elim}
use Rattle.std.proofs.Math.Path.{ap}
use Rattle.std.proofs.Math.Dec.{nltb→le}
use Rattle.finite.specs.Bounded.{decide}
use Rattle.finite.specs.Sum.{on, sum_term, sum_zero}
use Rattle.summary.specs.declared.Verdict.{Verdict}
use Rattle.summary.specs.declared.Verdict.TheVariants.{Runs, Short}
use Rattle.summary.specs.Summary.{short_places}

-- The place q is the first short one,
pub record IsFirst (missing : ℕ → ℕ) (q : ℕ) : Type 0 where
  pub short : 0 < missing q
  pub before : (p : ℕ) → p < q → missing p ≡ 0

-- and one of n places.
abbrev pub FirstIn : (ℕ → ℕ) → ℕ → ℕ → Type 0
FirstIn missing n q = (q < n) × IsFirst missing q

-- Nothing is missing at any place; or it is at a first place, by the count told.
abbrev pub VerdictSays : (ℕ → ℕ) → ℕ → Verdict → Type 0
VerdictSays missing n Runs = (p : ℕ) → p < n → missing p ≡ 0
VerdictSays missing n (Short q m) = FirstIn missing n q.0 × (missing q.0 ≡ m)

module _ (missing : ℕ → ℕ) (n : ℕ) where
  counted : (p : ℕ) → p < n → short_places missing n ≡ 0 → missing p ≡ 0
  unfolding short_places
  counted p l e =
      ⊎_elim
      (λ t.
      absurd (omega (arith, sum_term n (λ q. on (ltb 0 (missing q)) 1) p l, ap (λ (b : Bool). on b 1) (lt-ltb 0 (missing p) (ltb→lt 0 (missing p) t)))))
      (λ t. omega (arith, nltb→le 0 (missing p) t))
      (decide (ltb 0 (missing p)))

  -- no place is short exactly if nothing is missing at any,
  pub none_short : (short_places missing n ≡ 0) ↔ ((p : ℕ) → p < n → missing p ≡ 0)
  unfolding short_places
  none_short = (
    λ e p l. counted p l e,
    λ nothing. sum_zero n _ (λ p l. ap (λ (b : Bool). on b 1) (le-ltb 0 (missing p) (omega (arith, nothing p l)))),
  )
