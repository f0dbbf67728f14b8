-- Rests on `Steps`: after the exchange the next giver is ready.
use Rattle.std.proofs.Common.{arith}
use Rattle.exchange.proofs.Steps.{next_ready}
use Rattle.exchange.proofs.walk_step.Goals as goal

pub returns-clause-stepped : goal.returns-clause-stepped
returns-clause-stepped c =
    -- the place and the giver found
    let p = c.in-Some.ensures in
    let q = c.in-Some-next_giver.ensures in
    (q.names, omega arith, λ row tail met h. next_ready h _ p.here (omega arith) _ q.here _ _ c.requires.holds c.exchange.ensures)
