-- The line follows the verdict's case.
use Rattle.std.proofs.Common.{arith}
use Rattle.lines.specs.Listing.{last_line, runs_line}
use Rattle.text.specs.Words.{word}
use Rattle.last_line.proofs.put_verdict.Goals as goal

pub put_first-requires : goal.put_first-requires
put_first-requires c =
    let place = rw c.in-Short.is at c.requires.v_bound in
    (omega arith, omega arith, omega arith)

pub returns-in-Runs : goal.returns-in-Runs
unfolding last_line runs_line word
returns-in-Runs c = rw c.in-Runs.is c.word.ensures

pub returns-in-Short : goal.returns-in-Short
unfolding last_line
returns-in-Short c = rw c.in-Short.is c.put_first.ensures
