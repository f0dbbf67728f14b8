-- Entry after entry.
use Rattle.std.proofs.Common.{arith}
use Rattle.text.specs.Putting.{◌then◌}
use Rattle.writer.specs.Written.{table}
use Rattle.writer.proofs.put_table.Goals as goal

pub returns : goal.returns
unfolding table
returns c =
    (c.put_entry-a.ensures.0 then c.put_entry-b.ensures.0 then c.put_entry-c.ensures.0 then c.put_entry.ensures.0, omega arith)
