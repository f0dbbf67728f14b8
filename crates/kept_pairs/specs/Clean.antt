-- The clean sheet. Document 02, A1: all but the pairs as it was, the kept pairs in their order, and the table to match.
use Rattle.std.specs.Prelude.{ℕ, List}
use Rattle.reasons.specs.Reasons.{kept_plan}
use Rattle.sheet.specs.Items.{net_of}
use Rattle.writer.specs.Written.{bytes_of}

unfoldable pub clean_of : List ℕ → List ℕ
clean_of s = bytes_of (net_of s) (kept_plan s)
