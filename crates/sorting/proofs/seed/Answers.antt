use Rattle.std.proofs.Common.{arith, rules}
use Rattle.sorting.proofs.Seeding.{seed_start, seed_more, seed_pass}
use Rattle.sorting.proofs.seed.Goals as goal
use Rattle.sorting.proofs.seed.Goals.{then-left-v-eq0, else-left-v-eq0}

pub loop-v-init : goal.loop-v-init
loop-v-init c = (search rules, search rules, seed_start _ _ _)

pub loop-v-preserved : goal.loop-v-preserved
loop-v-preserved c =
    let so_far = c.loop-v.invariant in
    elim c.if-left-v-eq0.branch [
      | then-left-v-eq0 w ↦
          rw (w.queue-is, w.end-is) (
            search rules,
            omega (arith, so_far.1),
            seed_more _ _ _ _ _ so_far.2 c.loop-v-test.true w.if-left-v-eq0.true (omega (arith, so_far.1, c.loop-v-test.true, c.requires)),
          )
      | else-left-v-eq0 w ↦ rw (w.queue-is, w.end-is) (search rules, omega (arith, so_far.1), seed_pass _ _ _ _ _ so_far.2 w.if-left-v-eq0.false)
    ]
