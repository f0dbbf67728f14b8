-- `reedanchor::reedanchor_plan` rests on what `judge_plan` says and leaves in the row; the first short place that it tells is small (`first_small`).
use Rattle.std.proofs.Common.{ap, arith}
use Rattle.answers.specs.ForC.{first_said}
use Rattle.answers.specs.Same.{plan_told}
use Rattle.reedanchor.proofs.PlanSaid.{first_small}
use Rattle.reedanchor.proofs.reedanchor_plan.Goals as goal

pub tell_plan-requires : goal.tell_plan-requires
tell_plan-requires c = omega (arith, ap first_said c.judge_plan-a.ensures.result_value, first_small c.args.sheet.now c.args.row.now)

pub returns : goal.returns
returns c = record { plan_told = plan_told c.judge_plan-a.ensures.result_value c.tell_plan.ensures; row_value = c.judge_plan-a.ensures.row_value }
