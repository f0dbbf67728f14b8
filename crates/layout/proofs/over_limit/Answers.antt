-- Entry by entry: the first three counts are within their limits, so that the last decides.
use Rattle.std.proofs.Common.{arith}
use Rattle.layout.proofs.Table.{over_places, over_transitions, over_events, over_last}
use Rattle.layout.proofs.over_limit.Goals as goal

pub returns-then-l-gt-PLACES : goal.returns-then-l-gt-PLACES
returns-then-l-gt-PLACES c = λ s is. over_places s _ is (omega arith)

pub returns-then-l-gt-TRANSITIONS : goal.returns-then-l-gt-TRANSITIONS
returns-then-l-gt-TRANSITIONS c = λ s is. over_transitions s _ is (omega arith)

pub returns-then-l-gt-EVENTS : goal.returns-then-l-gt-EVENTS
returns-then-l-gt-EVENTS c = λ s is. over_events s _ is (omega arith)

pub returns : goal.returns
returns c = λ s is. over_last s _ is _ (omega arith) (omega arith) (omega arith) (omega arith)
