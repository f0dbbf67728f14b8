use Rattle.std.proofs.Common.{rules}
use Rattle.drawing.specs.Moves.{moves}
use Rattle.exchange.proofs.Steps.{never_ready}
use Rattle.exchange.proofs.walk.Goals as goal

pub returns-in-Stuck-clause-walked : goal.returns-in-Stuck-clause-walked
returns-in-Stuck-clause-walked c = never_ready _ _ _ _ _ _ _ _ _ c.loop-v.invariant.2 c.in-Stuck.ensures.stepped

pub loop-v-preserved : goal.loop-v-preserved
loop-v-preserved c =
    let said = c.in-On.ensures.stepped in
    (said.0, search (moves, rules), search (said.2, c.loop-v.invariant.2))
