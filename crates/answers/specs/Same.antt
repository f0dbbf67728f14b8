-- What C is told goes by what is said: where two calls say the same, they tell the same.
use Rattle.std.specs.Prelude.{ℕ, Bool, ◌≡◌, ℤ}
use Rattle.std.proofs.Common.{subst}
use Rattle.calls.specs.Said.{Said}
use Rattle.sheet.specs.Told.{no_fault, Told}
use Rattle.summary.specs.Summary.{PlanValues}
use Rattle.answers.specs.ForC.{FaultTold, PlanTold, PlaceTold, CheckTold, MendTold, ListingTold}

-- a fault that is none
pub none_told : (f : Told) (r item : ℕ) → f ≡ no_fault → FaultTold f r item → FaultTold no_fault r item
none_told f r item e h = subst (λ (x : Told). FaultTold x r item) e h

module _ {said due : Said PlanValues} {r item total short first : ℕ} where
  pub plan_told : said ≡ due → PlanTold said r item total short first → PlanTold due r item total short first
  plan_told e h = subst (λ (x : Said PlanValues). PlanTold x r item total short first) e h

module _ {said due : Said ℤ} {r item : ℕ} {spare : ℤ} where
  pub place_told : said ≡ due → PlaceTold said r item spare → PlaceTold due r item spare
  place_told e h = subst (λ (x : Said ℤ). PlaceTold x r item spare) e h

module _ {said due : Said Bool} {r item valid : ℕ} where
  pub check_told : said ≡ due → CheckTold said r item valid → CheckTold due r item valid
  check_told e h = subst (λ (x : Said Bool). CheckTold x r item valid) e h

module _ {said due : Said ℕ} {r item written : ℕ} where
  pub mend_told : said ≡ due → MendTold said r item written → MendTold due r item written
  mend_told e h = subst (λ (x : Said ℕ). MendTold x r item written) e h

module _ {said due : Said ℕ} {r written : ℕ} where
  pub listing_told : said ≡ due → ListingTold said r written → ListingTold due r written
  listing_told e h = subst (λ (x : Said ℕ). ListingTold x r written) e h
