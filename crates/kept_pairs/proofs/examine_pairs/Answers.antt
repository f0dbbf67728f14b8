-- The rows are of the kept plan, so that its cycles are found.
use Rattle.std.proofs.Common.{Bool, sym, ap, ◌∙◌}
use Rattle.sheet.specs.Told.{tell, plain}
use Rattle.kept_pairs.proofs.Keeping.{kept_within, kept_cycle_lem}
use Rattle.kept_pairs.proofs.examine_pairs.Goals as goal

pub invariant_of-pairs : goal.invariant_of-pairs
invariant_of-pairs c = record { within = kept_within _ c.requires.laid _ c.give_reasons.ensures.kept _ c.events.ensures }

-- `cycle`: what the test says is so of the kept pairs
pub returns-then-has_cycle-clause-fault : goal.returns-then-has_cycle-clause-fault
returns-then-has_cycle-clause-fault c =
    let cycle = kept_cycle_lem _ c.requires.laid _ c.give_reasons.ensures.kept _ c.events.ensures in
    ap (λ (b : Bool). tell 11 (plain b)) (sym c.if-has_cycle.true ∙ c.has_cycle.ensures ∙ cycle)

pub returns-clause-fault : goal.returns-clause-fault
returns-clause-fault c =
    let cycle = kept_cycle_lem _ c.requires.laid _ c.give_reasons.ensures.kept _ c.events.ensures in
    ap (λ (b : Bool). tell 11 (plain b)) (sym c.if-has_cycle.false ∙ c.has_cycle.ensures ∙ cycle)
