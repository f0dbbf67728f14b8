-- What an exchange does: u feeds w in place of v by k tokens, all that u has free and v feeds to w.
use Rattle.std.specs.Prelude.{ℕ, ◌*◌, ◌+◌, ◌<◌, min, List, ◌≡◌, T, get_or}
use Rattle.ids.specs.Limits.{most_events}
use Rattle.marks.specs.Marks.{marked}
use Rattle.tokenflow.specs.Rows.{Rows}
use Rattle.tokenflow.specs.Flowing.{lacking}
use Rattle.drawing.specs.Moves.{Moved}

pub record Exchanged (n : ℕ) (pred : List ℕ) (r r' : Rows) (u w v k : ℕ) : Type 0 where
  pub most : k ≡ min (get_or r.free u 0) (get_or r.amount (v * most_events + w) 0)
  pub moved : Moved n pred r r'
  pub same : lacking n r' ≡ lacking n r
  -- v has tokens free now
  pub freed : 0 < k → 0 < get_or r'.free v 0
  -- nothing changes for other takers, and none lacks more or less
  pub shares : (b : ℕ) → get_or r'.share b 0 ≡ get_or r.share b 0
  pub others : (a b : ℕ) → b < most_events → ¬ (b ≡ w) → T (marked r.fed a b) → T (marked r'.fed a b)
