-- A row that has the least opening counts of a sheet's places, and the line of a place from its numbers.
use Rattle.std.specs.Prelude.{ℕ, ◌<◌, List, ◌≡◌, get_or}
use Rattle.std.proofs.Math.IntN.{sub_ℕ}
use Rattle.plan.specs.Prefix.{least_opening}
use Rattle.theory.specs.Spare.{spare_minus}
use Rattle.sheet.specs.Table.{places_of}
use Rattle.sheet.specs.Items.{opening_at, net_of, plan_of}
use Rattle.counts.specs.Ends.{gained_at, lost_at, end_is}
use Rattle.lines.specs.Listing.{place_line, line_of}

pub record LeastRow (s row : List ℕ) : Type 0 where
  pub counts : (p : ℕ) → p < places_of s → get_or row p 0 ≡ least_opening (net_of s) (plan_of s) p

pub line_is : (s : List ℕ) (p opening gained lost least : ℕ) → opening ≡ opening_at s p → gained ≡ gained_at s p → lost ≡ lost_at s p
    → least ≡ least_opening (net_of s) (plan_of s) p → line_of (net_of s) (plan_of s) p ≡ place_line p opening (sub_ℕ gained lost) (sub_ℕ opening least)
unfolding line_of
line_is s p opening gained lost least o g l c = rw (o, g, l, c, end_is s p, spare_minus (net_of s) (plan_of s) p)
