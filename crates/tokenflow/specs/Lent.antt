-- The rows that a `Flow` refers to: their numbers, and which rows they are.
use Rattle.tokenflow.specs.Rows.{Rows}
use Rattle.tokenflow.specs.declared.Flow.{Flow}

abbrev pub rows_in : Flow → Rows
rows_in f =
    record {
      amount = f.amount.now;
      fed = f.fed.now;
      free = f.free.now;
      share = f.share.now;
      names = record { amount = f.amount.ghost_name; fed = f.fed.ghost_name; free = f.free.ghost_name; share = f.share.ghost_name };
    }
