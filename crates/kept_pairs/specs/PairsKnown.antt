-- What is known of the pairs of a sheet, in rows: the reason of each, and those that are kept.
use Rattle.std.specs.Prelude.{ℕ, ◌<◌, List, get_or}
use Rattle.finite.specs.Filled.{Filled}
use Rattle.ids.specs.Limits.{most_events}
use Rattle.reasons.specs.declared.KeptPairs.{KeptPairs}
use Rattle.reasons.specs.KeptRows.{KeptOf}
use Rattle.reasons.specs.Reasons.{reason_at}
use Rattle.sheet.specs.Table.{pairs_of}
use Rattle.writer.specs.Written.{pair_bytes}

pub record PairsKnown (s : List ℕ) (old reasons : List ℕ) (pairs : KeptPairs) : Type 0 where
  pub written : Filled (reason_at s) (pairs_of s) old reasons
  pub kept : KeptOf s pairs

-- The first n numbers of a row are numbers of events.
abbrev pub Events : ℕ → List ℕ → Type 0
Events n row = (k : ℕ) → k < n → get_or row k 0 < most_events

-- the bytes of the pair k of two rows
abbrev pub rows_bytes : List ℕ → List ℕ → ℕ → List ℕ
rows_bytes from to k = pair_bytes (get_or from k 0) (get_or to k 0)
