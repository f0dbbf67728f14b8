-- What is known of a sheet that isn't refused, but for its rows: it stands, its numbers are good and its kept pairs have no cycle. And the converse.
use Rattle.std.specs.Prelude.{ℕ, ◌≤◌, false, List, ◌≡◌, length}
use Rattle.reasons.specs.Reasons.{kept_cycle}
use Rattle.sheet.specs.Faultless.{GoodNumbers}
use Rattle.sheet.specs.Laid.{Laid}
use Rattle.sheet.specs.Table.{pairs_of}
use Rattle.mending.specs.Mended.{sheet_fault}

pub record Mendable (s : List ℕ) : Type 0 where
  pub laid : Laid s
  pub numbers : GoodNumbers s
  pub acyclic : kept_cycle s ≡ false

-- What is known of a call that isn't refused: nothing of the sheet stands in the way, and both rows have room.
pub record CallClear (s clean reasons : List ℕ) : Type 0 where
  pub sheet : (sheet_fault s).number ≡ 0
  pub reasons_long : pairs_of s ≤ length reasons
  pub clean_long : length s ≤ length clean
