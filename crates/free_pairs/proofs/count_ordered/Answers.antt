-- At most 256 rows have at most 256 marks each.
use Rattle.std.proofs.Common.{◌^◌, arith, ◌∙◌, rules, refl}
use Rattle.std.proofs.lemmas.Iterator.{YieldsList-from_range, YieldsList-from_map}
use Rattle.std.proofs.lemmas.Iterator.Adapters.{fits_from_length, at_most_from_yields_List}
use Rattle.std.proofs.lemmas.Iterator.Consumers.{sum_from_yields_List, YieldsList-at}
use Rattle.std.proofs.lemmas.List.FromFn.{length-range_with_len}
use Rattle.mark_count.specs.MarkCount.{marks_of}
use Rattle.free_pairs.proofs.Ordered.{total}
use Rattle.free_pairs.proofs.count_ordered.Goals as goal

pub sum-requires-clause-fits : goal.sum-requires-clause-fits
sum-requires-clause-fits c =
    fits_from_length _ _ 256 (2 ^ 64) (at_most_from_yields_List (YieldsList-at c.map.ensures.source (YieldsList-from_range 0 c.args.n c.args.n refl (omega arith))) (omega (arith, c.requires, length-range_with_len 0 c.args.n))) c.map.ensures.closure (omega arith) (λ x r q k. search rules)

pub returns : goal.returns
returns c =
    sum_from_yields_List c.map.result c.sum.result c.sum.ensures.ran
    (YieldsList-from_map _ (marks_of c.args.pred.now) (YieldsList-at c.map.ensures.source (YieldsList-from_range 0 c.args.n c.args.n refl (omega arith))) c.map.ensures.closure (λ x r q k. search rules))
    ∙ total c.args.pred.now c.args.n
