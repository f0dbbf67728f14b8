-- The plan of pairs that stand in rows.
use Rattle.plan.specs.Net.{Plan}
use Rattle.sorting.specs.Rows.{plan_by}
use Rattle.sorting.specs.declared.pairs.Pairs.{Pairs}

abbrev pub plan_in : Pairs → Plan
plan_in p = plan_by p.events p.count p.from.now p.to.now
