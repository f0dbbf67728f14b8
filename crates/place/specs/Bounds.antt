-- What the limits of a sheet say of its counts: at most 256,000 tokens are needed or missing at a place, and the spare count lies between
-- −256,000 and 1,000,000. Document 02, A3.
use Rattle.std.specs.Prelude.{ℕ, ◌≤◌, ◌<◌, List, pos, neg_ℤ, ◌≤ℤ◌}
use Rattle.std.proofs.Common.{arith}
use Rattle.finite.specs.Sum.{sum_most}
use Rattle.plan.specs.Net.{taken_by}
use Rattle.sheet.specs.Faultless.{Faultless, sound}
use Rattle.sheet.specs.Items.{net_of, plan_of, label_at}
use Rattle.sheet.specs.Table.{places_of, events_of}
use Rattle.theory.specs.Missing.{least_most, missing_opening}
use Rattle.theory.specs.Spare.{spare_most, spare_least}
use Rattle.place.specs.Place.{missing_at, least_at, spare_at}

module _ (s : List ℕ) (known : Faultless s) (p : ℕ) (l : p < places_of s) where
  -- no more is needed than all events take
  pub most_least : least_at s p ≤ 256000
  most_least =
      omega (
        arith,
        least_most (net_of s) (plan_of s) p (sound s known),
        sum_most (events_of s) 1000 (taken_by (net_of s) (plan_of s) p) (λ v m. known.takes (label_at s v) p (known.labels v m) l),
        known.laid.limited.events,
      )

  pub most_missing_lem : missing_at s p ≤ 256000
  most_missing_lem = omega (arith, most_least, missing_opening (net_of s) (plan_of s) p)

  pub spare_from : neg_ℤ (pos 256000) ≤ℤ spare_at s p
  spare_from = spare_least (net_of s) (plan_of s) p 256000 most_least

  pub spare_to : spare_at s p ≤ℤ pos 1000000
  spare_to = spare_most (net_of s) (plan_of s) p 1000000 (known.openings p l)
