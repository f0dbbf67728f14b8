-- The numbers that are told are those of the place's line, by `line_is`.
use Rattle.lines.specs.LeastRow.{line_is}
use Rattle.place_lines.proofs.put_place.Goals as goal

pub returns-clause-written : goal.returns-clause-written
returns-clause-written c =
    rw (line_is _ _ _ _ _ _ c.opening.ensures c.gained.ensures c.lost.ensures c.requires.least_value) c.put_counts.ensures.written
