-- A number is the digits of its tenth and then its last digit.
use Rattle.std.proofs.Common.{arith, ◌∙◌}
use Rattle.text.proofs.Digits.{only_put, last_put}
use Rattle.text.proofs.Output.+number.Goals as goal
use Rattle.text.proofs.Output.+number.Goals.{then-n-ge10, else-n-ge10}

pub returns : goal.returns
returns t c =
    elim c.if-n-ge10.branch [
      | then-n-ge10 w ↦
          let last = rw w.self-is at c.word.ensures in
          record { put = last_put c.args.n (omega arith) w.number.ensures.put last.put; same = last.same ∙ w.number.ensures.same }
      | else-n-ge10 w ↦
          let only = rw w.self-is at c.word.ensures in
          record { put = only_put c.args.n (omega arith) only.put; same = only.same }
    ]
