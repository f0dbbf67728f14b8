use Rattle.std.proofs.Common.{arith, rules}
use Rattle.fold.proofs.Turns.{turns_none, turns_then, turns_some, turns_all}
use Rattle.fold.proofs.fold_givers.Goals as goal

pub loop-u-init : goal.loop-u-init
loop-u-init c = (search rules, turns_none _ _ _ (omega arith))

pub fold_giver-requires : goal.fold_giver-requires
fold_giver-requires c = record { u_lt_n = search rules; may_fold_giver = turns_some c.requires.zeros c.loop-u.invariant.1 c.requires.may_fold }

pub loop-u-preserved : goal.loop-u-preserved
loop-u-preserved c = (search rules, turns_then c.loop-u.invariant.1 c.fold_giver.ensures)

pub returns : goal.returns
returns c = turns_all c.requires.zeros c.loop-u.invariant.1 (omega arith)
