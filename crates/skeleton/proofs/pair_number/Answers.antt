use Rattle.std.proofs.Common.{arith}
use Rattle.skeleton.proofs.Seeking.{seek_some, seek_start, seek_end, seek_more, seek_less, seek_next}
use Rattle.skeleton.proofs.pair_number.Goals as goal

pub overflow_sub-i : goal.overflow_sub-i
overflow_sub-i c = omega (arith, c.entry-i.ensures, seek_some _ _ _ c.requires.a_lt_most_events.1 c.requires.may_find)

pub loop-a-init : goal.loop-a-init
loop-a-init c = seek_start _ _ _ c.requires.a_lt_most_events.1 c.requires.may_find _ (omega (arith, c.entry-i.ensures))

pub overflow_sub-i-in-loop-a : goal.overflow_sub-i-in-loop-a
overflow_sub-i-in-loop-a c =
    omega (arith, c.entry-i-in-loop-a.ensures, seek_more c.loop-a.invariant (λ e. omega (arith, c.loop-a-test.true, c.entry.ensures)))

pub loop-a-smaller : goal.loop-a-smaller
loop-a-smaller c =
    omega (arith, c.entry-i-in-loop-a.ensures, seek_less c.loop-a.invariant (λ e. omega (arith, c.loop-a-test.true, c.entry.ensures)))

pub loop-a-preserved : goal.loop-a-preserved
loop-a-preserved c =
    seek_next c.loop-a.invariant (λ e. omega (arith, c.loop-a-test.true, c.entry.ensures)) _ (omega (arith, c.entry-i-in-loop-a.ensures))

pub returns : goal.returns
returns c = seek_end c.loop-a.invariant (omega (arith, c.loop-a-test.false, c.entry.ensures))
