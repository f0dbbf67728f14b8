-- A place of a sheet: its counts, what each event gives and takes there, and what is known when it is settled.
use Rattle.std.specs.Prelude.{ℕ, ◌<◌, List, ◌≡◌, ℤ}
use Rattle.std.proofs.Common.{arith}
use Rattle.closure.specs.PlanRows.{Predecessors}
use Rattle.finite.specs.Filled.{Filled}
use Rattle.ids.specs.declared.Place.{Place}
use Rattle.plan.specs.Net.{taken_by, given_by}
use Rattle.plan.specs.Prefix.{missing, least_opening, spare}
use Rattle.sheet.specs.Faultless.{Faultless, sound}
use Rattle.sheet.specs.Items.{net_of, plan_of, label_at}
use Rattle.sheet.specs.Table.{places_of, events_of}
use Rattle.tokenflow.specs.Rows.{rows}
use Rattle.least.specs.PlaceRows.{PlaceRows}
use Rattle.least.specs.Settled.{PlaceSettled}

-- What is missing at the place p of a sheet, the least opening count with which its plan runs there, and what the place has to spare.
abbrev pub missing_at : List ℕ → ℕ → ℕ
missing_at s p = missing (net_of s) (plan_of s) p

abbrev pub least_at : List ℕ → ℕ → ℕ
least_at s p = least_opening (net_of s) (plan_of s) p

abbrev pub spare_at : List ℕ → ℕ → ℤ
spare_at s p = spare (net_of s) (plan_of s) p

-- What the event v gives to the place p of a sheet, and takes from it.
abbrev pub gives_in : List ℕ → ℕ → ℕ → ℕ
gives_in s p v = given_by (net_of s) (plan_of s) p v

abbrev pub takes_in : List ℕ → ℕ → ℕ → ℕ
takes_in s p v = taken_by (net_of s) (plan_of s) p v

-- The place p of a sheet is settled in these rows; what givers have left free is in a row that nobody else reads.
abbrev pub SettledIn : List ℕ → ℕ → ℕ → List ℕ → List ℕ → List ℕ → List ℕ → List ℕ → ℕ → Type 0
SettledIn s p enough pred amount fed share givers lacks =
    (free : List ℕ) × PlaceSettled (net_of s) (plan_of s) p enough pred (rows amount fed free share) givers lacks

abbrev pub SettledHere : List ℕ → Place → ℕ → List ℕ → List ℕ → List ℕ → List ℕ → List ℕ → ℕ → Type 0
SettledHere s p enough pred amount fed share givers lacks =
    SettledIn s p.0 enough pred amount fed share givers lacks

-- Rows filled with a sheet's gives and takes at a place are those of that place.
pub sheet_rows : (s : List ℕ) → Faultless s → (p n : ℕ) → p < places_of s → n ≡ events_of s → (pred free₀ share₀ free share : List ℕ) → Predecessors (plan_of s) pred
    → Filled (gives_in s p) (events_of s) free₀ free → Filled (takes_in s p) (events_of s) share₀ share → PlaceRows (net_of s) (plan_of s) p n pred free share
sheet_rows s known p n place all pred free₀ share₀ free share before g t =
    let label : (v : ℕ) → v < n → v < events_of s = λ v l. omega (arith, all) in
    record {
      sound = sound s known;
      events = all;
      few = omega (arith, all, known.laid.limited.events);
      before = before;
      gives = λ v l. g.numbers v (label v l);
      takes = λ v l. t.numbers v (label v l);
      small_gives = record { most = λ v l. omega (arith, g.numbers v (label v l), known.gives (label_at s v) p (known.labels v (label v l)) place) };
      small_takes = record { most = λ v l. omega (arith, t.numbers v (label v l), known.takes (label_at s v) p (known.labels v (label v l)) place) };
    }
