use Rattle.std.proofs.Common.{rules, tests, ltb, ◌∙◌}
use Rattle.std.proofs.lemmas.Iterator.{YieldsList-from_slice}
use Rattle.std.proofs.lemmas.Iterator.Consumers.{YieldsList-from_filter, count_from_yields_List}
use Rattle.summary.proofs.Counts.{short_of}
use Rattle.summary.proofs.short_places.Goals as goal

pub returns : goal.returns
returns c =
    count_from_yields_List c.filter.result _ c.count.ensures.ran (YieldsList-from_filter _ (ltb 0) (YieldsList-from_slice c.args.counts.now (cc)) c.filter.ensures.closure (λ x r q k. search (rules, tests)))
    ∙ short_of _
