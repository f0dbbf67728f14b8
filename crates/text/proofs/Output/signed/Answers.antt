-- Below 0 it is the sign and the difference turned round, else the difference (`signed_below`, `signed_above`).
use Rattle.text.specs.Words.{word}
use Rattle.text.specs.Signed.{signed_below, signed_above}
use Rattle.text.proofs.Output.signed.Goals as goal

pub returns-then-gained-lost-clause-written : goal.returns-then-gained-lost-clause-written
unfolding word
returns-then-gained-lost-clause-written c = rw (signed_below _ _ c.if-gained-lost.true) c.field.ensures.written

pub returns-clause-written : goal.returns-clause-written
returns-clause-written c = rw (signed_above _ _ c.if-gained-lost.false) c.number.ensures
