-- As many events as the smallest amounts are for.
use Rattle.std.specs.Prelude.{ℕ}

abbrev pub few_events : ℕ
few_events = 4
