-- The count that is asked for of a place: the least opening count, or only what is missing.
use Rattle.std.specs.Prelude.{ℕ, ◌-◌, Bool, true, false, cond, List, ◌≡◌}
use Rattle.std.proofs.Common.{arith}
use Rattle.sheet.specs.Items.{opening_at}
use Rattle.place.specs.Place.{missing_at, least_at, SettledIn}
use Rattle.place.specs.Judged.{JudgedIn, judged, least_is}

abbrev pub asked_at : Bool → List ℕ → ℕ → ℕ
asked_at least s p = cond least (least_at s p) (missing_at s p)

-- What is known of a place whose takers lack this many at last, of which m are above the opening count: the count that is asked for is the one or the
-- other, and rows show what is missing.
pub record Asked (least : Bool) (s : List ℕ) (p : ℕ) (pred amount fed share givers : List ℕ) (lacks m : ℕ) : Type 0 where
  pub told : cond least lacks m ≡ asked_at least s p
  pub shown : JudgedIn s p pred amount fed share givers m

-- So it is if the least opening count was settled with nothing for what is enough, and what is missing with the opening count.
pub asked : (least : Bool) (s : List ℕ) (p opens enough : ℕ) (pred amount fed share givers : List ℕ) (lacks m : ℕ) → opens ≡ opening_at s p → enough ≡ cond least 0 opens
    → SettledIn s p enough pred amount fed share givers lacks → m ≡ lacks - opens → Asked least s p pred amount fed share givers lacks m
asked true s p opens enough pred amount fed share givers lacks m opened few settled above =
    record {
      told = least_is s p enough pred amount fed share givers lacks settled few;
      shown = judged s p enough pred amount fed share givers lacks settled m (omega (arith, few)) (omega (arith, above, opened));
    }
asked false s p opens enough pred amount fed share givers lacks m opened few settled above =
    let shown = judged s p enough pred amount fed share givers lacks settled m (omega (arith, few, opened)) (omega (arith, above, opened)) in
    record { told = shown.1.count; shown = shown }
