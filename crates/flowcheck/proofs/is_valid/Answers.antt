-- Rule 4 is asked first, then rule 3, and where both hold the other two decide.
use Rattle.std.proofs.Common.{arith, rules}
use Rattle.flowcheck.proofs.Told.{breaks_3, breaks_4, rest_decides}
use Rattle.flowcheck.proofs.is_valid.Goals as goal

pub add_pairs-requires : goal.add_pairs-requires
add_pairs-requires c = record { faultless = c.requires.faultless; order_rows = c.requires.order_rows; pairs_in_bounds = omega arith; blank = c.blank-carried.ensures }

pub returns-then-not-add_pairs : goal.returns-then-not-add_pairs
returns-then-not-add_pairs c = search (rules, breaks_4)

pub returns-then-not-covers : goal.returns-then-not-covers
returns-then-not-covers c = search (rules, breaks_3)

pub is_balanced-requires : goal.is_balanced-requires
is_balanced-requires c = record { faultless = c.requires.faultless; known = c.requires.known; room = c.requires.room; pair_sums = c.add_pairs.ensures.pair_sums c.if-not-add_pairs.false }

pub returns : goal.returns
returns c = search (rules, rest_decides)
