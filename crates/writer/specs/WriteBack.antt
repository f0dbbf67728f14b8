-- Write after read: the net and the plan of a sheet without fault of the layout, written again, are the same bytes. And a sheet that is written is
-- the same for the same items.
use Rattle.std.specs.Prelude.{ℕ, ◌<◌, ◌≤◌, ◌≡◌, get_or}
use Rattle.std.proofs.Common.{arith}
use mathlib.Core.List.{List}
use Rattle.std.proofs.Math.ListN.{length}
use Rattle.finite.specs.Stands.{Bytes}
use Rattle.layout.specs.Layout.{pairs_at}
use Rattle.sheet.specs.Items.{net_of, plan_of}
use Rattle.sheet.specs.Laid.{Laid}
use Rattle.sheet.specs.Table.{start}
use Rattle.writer.specs.Written.{layout_of}

-- The numbers from one position of s up to another are bytes.
abbrev pub BytesWithin : List ℕ → ℕ → ℕ → Type 0
BytesWithin s from to = (i : ℕ) → from ≤ i → i < to → get_or s i 0 < 256

module _ (s : List ℕ) (known : Laid s) where
  -- the last body starts where the layout says
  pub last_start : start s 3 ≡ pairs_at (layout_of (net_of s) (plan_of s))
  last_start = omega (arith, known.pairs_start, known.events_start, known.transitions_start, known.places_start)

  module _ (all : Bytes s) where
    pub within : (from to : ℕ) → to ≤ length s → BytesWithin s from to
    within from to l i m h = all i (omega arith)
