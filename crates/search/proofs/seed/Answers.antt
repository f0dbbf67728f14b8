use Rattle.std.proofs.Common.{arith, rules}
use Rattle.search.proofs.Rounds.{seed_start, seed_more, seed_pass}
use Rattle.search.proofs.seed.Goals as goal
use Rattle.search.proofs.seed.Goals.{then-share-w-gt0, else-share-w-gt0}

pub loop-w-init : goal.loop-w-init
loop-w-init c = search (rules, seed_start)

pub loop-w-preserved : goal.loop-w-preserved
loop-w-preserved c =
    let l = c.loop-w in
    elim c.if-share-w-gt0.branch [
      | then-share-w-gt0 w ↦
          rw (w.takers-is, w.queue-is, w.tail-is) (search rules, omega arith, seed_more l.invariant.2 w.list.ensures w.if-share-w-gt0.true)
      | else-share-w-gt0 w ↦
          rw (w.takers-is, w.queue-is, w.tail-is) (search rules, omega arith, seed_pass l.invariant.2 (omega (arith, w.if-share-w-gt0.false)))
    ]
