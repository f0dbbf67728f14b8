-- The byte of a reason in a lent row. Document 02, A1.
use Rattle.std.specs.Prelude.{ℕ, Option, Some, None}
use Rattle.reasons.specs.declared.Reason.{Reason}
use Rattle.reasons.specs.declared.Reason.TheVariants.{NoEvent, OneEvent, Repeat}

-- 0 of a pair that is kept, else the number of its reason
abbrev pub byte_of : Option Reason → ℕ
byte_of None = 0
byte_of (Some NoEvent) = 1
byte_of (Some OneEvent) = 2
byte_of (Some Repeat) = 3
