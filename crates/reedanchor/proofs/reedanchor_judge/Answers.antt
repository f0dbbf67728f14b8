-- `reedanchor::reedanchor_judge` rests on the row's length, by which the plan judgement's answer has the till's number (`till_is`), and on the
-- limit of that number (`till_fits`).
use Rattle.std.proofs.Common.{◌≡◌, ap, ◌∙◌, arith}
use lib.ListN.{length-replicate}
use Rattle.till.specs.Till.{number_said, till_answer}
use Rattle.plan_judgement.specs.Judgement.{says}
use Rattle.reedanchor.specs.Laws.{till_fits}
use Rattle.reedanchor.proofs.PlanSaid.{till_is}
use Rattle.reedanchor.proofs.reedanchor_judge.Goals as goal

pub answer_number-requires : goal.answer_number-requires
answer_number-requires c =
    let told : number_said (says c.judge_plan-a.result) ≡ till_answer c.args.sheet.now =
    ap number_said c.judge_plan-a.ensures.result_value ∙ till_is _ _ (simp length-replicate (omega arith)) in
    omega (arith, told, till_fits c.args.sheet.now)

pub returns : goal.returns
returns c =
    let told : number_said (says c.judge_plan-a.result) ≡ till_answer c.args.sheet.now =
    ap number_said c.judge_plan-a.ensures.result_value ∙ till_is _ _ (simp length-replicate (omega arith)) in
    omega (arith, told)
