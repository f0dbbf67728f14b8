-- It rests on what a list holds after one store.
use Rattle.std.proofs.Common.{arith, length-set}
use Rattle.finite.specs.Queue.{stored}
use Rattle.skeleton.proofs.Listing.{pair_listed}
use Rattle.skeleton.proofs.list_pair.Goals as goal

pub bounds-index-i-2 : goal.bounds-index-i-2
bounds-index-i-2 c = rw length-set (omega arith)

pub bounds-index-to-2 : goal.bounds-index-to-2
bounds-index-to-2 c = rw length-set (rw length-set (omega arith))

pub returns : goal.returns
returns c =
    pair_listed
    c.requires.1
    c.requires.2
    (stored _ _ _ (omega arith))
    (stored _ _ _ (rw length-set (omega arith)))
    (stored _ _ _ (rw length-set (rw length-set (omega arith))))
