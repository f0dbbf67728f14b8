-- What is known when the missing count of a place is: a tokenflow of that lack, and the smallest done set if something is missing.
use Rattle.std.specs.Prelude.{ℕ, ◌-◌, ◌≤◌, ◌<◌, List, ◌≡◌, ℤ}
use Rattle.std.proofs.Common.{arith, sym, ap₂, ◌∙◌}
use Rattle.std.proofs.Math.IntN.{sub_ℕ}
use Rattle.ids.specs.declared.Place.{Place}
use Rattle.plan.specs.Net.{Net, Plan}
use Rattle.plan.specs.Prefix.{missing, smallest}
use Rattle.theory.specs.Spare.{spare_minus}
use Rattle.sheet.specs.Items.{net_of, plan_of, opening_at}
use Rattle.search.specs.Row.{members}
use Rattle.tokenflow.specs.Rows.{Rows, rows}
use Rattle.tokenflow.specs.Flowing.{Flowing, lacking}
use Rattle.least.specs.Settled.{FlowOf, missing_told, least_told, short_above}
use Rattle.place.specs.Place.{least_at, spare_at, SettledIn}
use Rattle.place.specs.declared.PlaceCounts.{PlaceCounts}

pub record Judged (N : Net) (P : Plan) (p : ℕ) (pred : List ℕ) (r : Rows) (givers : List ℕ) (m : ℕ) : Type 0 where
  pub count : m ≡ missing N P p
  pub lacks : m ≡ lacking P.events r - N.opening p
  pub flows : Flowing P.events pred r
  pub flow : FlowOf N P p r
  pub set : 0 < missing N P p → smallest N P p ≡ members givers

-- The place p of a sheet is judged in these rows; what givers have left free is in a row that nobody else reads.
abbrev pub JudgedIn : List ℕ → ℕ → List ℕ → List ℕ → List ℕ → List ℕ → List ℕ → ℕ → Type 0
JudgedIn s p pred amount fed share givers m =
    (free : List ℕ) × Judged (net_of s) (plan_of s) p pred (rows amount fed free share) givers m

-- So it is, and its two counts are known: what is missing and what is to spare.
abbrev pub CountedHere : List ℕ → Place → List ℕ → List ℕ → List ℕ → List ℕ → List ℕ → PlaceCounts → Type 0
CountedHere s p pred amount fed share givers counts =
    (counts.spare ≡ spare_at s p.0)
    × JudgedIn s p.0 pred amount fed share givers counts.missing

module _ (s : List ℕ) (p enough : ℕ) (pred amount fed share givers : List ℕ) (lacks : ℕ) (settled : SettledIn s p enough pred amount fed share givers lacks) where
  -- A place is judged if what was enough doesn't pass the opening count.
  pub judged : (m : ℕ) → enough ≤ opening_at s p → m ≡ lacks - opening_at s p → JudgedIn s p pred amount fed share givers m
  judged m few is =
      let e = settled.1 in
      let told = missing_told (net_of s) (plan_of s) p enough pred (rows amount fed settled.0 share) givers lacks e few in (
        settled.0,
        record {
          count = is ∙ told;
          lacks = omega (arith, is, e.sum);
          flows = e.flows;
          flow = e.flow;
          set = λ short. e.set (short_above (net_of s) (plan_of s) p enough pred (rows amount fed settled.0 share) givers lacks e few short) short;
        },
      )

  -- If nothing was enough, what the takers lack is the least opening count,
  pub least_is : enough ≡ 0 → lacks ≡ least_at s p
  least_is none =
      least_told (net_of s) (plan_of s) p enough pred (rows amount fed settled.0 share) givers lacks settled.1 none

-- and what the opening count is above it, with its sign, is to spare.
pub spare_is : (s : List ℕ) (p opens least : ℕ) (z : ℤ) → z ≡ sub_ℕ opens least → opens ≡ opening_at s p → least ≡ least_at s p → z ≡ spare_at s p
spare_is s p opens least z told open_is least_is = told ∙ ap₂ sub_ℕ open_is least_is ∙ sym (spare_minus (net_of s) (plan_of s) p)
