-- Settled with nothing for what is enough, a place tells the least opening count, which the limits of a sheet bound.
use Rattle.std.proofs.Common.{arith, ◌∙◌, w32}
use Rattle.std.proofs.Math.Facts.{to_z-of_z}
use Rattle.place.specs.Bounds.{most_least}
use Rattle.place.specs.Judged.{judged, least_is, spare_is}
use Rattle.place.proofs.place_counts.Goals as goal

pub less-spare-requires : goal.less-spare-requires
less-spare-requires c =
    let least = least_is _ _ _ _ _ _ _ _ _ c.settle_place-least.ensures.settled (omega arith) in
    let most = most_least _ c.requires.faultless c.args.p.0 c.requires.known in
    let opens = c.requires.faultless.openings c.args.p.0 c.requires.known in
    (omega (arith, c.opening-opens.ensures, opens), omega (arith, least, most))

pub returns-clause-counted : goal.returns-clause-counted
returns-clause-counted c =
    let opens = c.opening-opens.ensures in
    let is = c.settle_place-least.ensures.settled in
    let least = least_is _ _ _ _ _ _ _ _ _ is (omega arith) in (
      to_z-of_z {w = w32} (record { sfits = c.less-spare.type_inv }) ∙ spare_is _ _ c.opening-opens.result c.settle_place-least.result _ c.less-spare.ensures opens least,
      judged _ _ _ _ _ _ _ _ _ is _ (omega arith) (omega (arith, opens, c.above-missing.ensures)),
    )
