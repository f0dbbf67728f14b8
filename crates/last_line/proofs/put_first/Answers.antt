-- Its texts are put one after another.
use Rattle.lines.specs.Listing.{first_line}
use Rattle.text.specs.Output.{◌then◌}
use Rattle.text.specs.Words.{word}
use Rattle.last_line.proofs.put_first.Goals as goal

pub returns : goal.returns
unfolding word first_line
returns c = c.field.ensures.written then c.word.ensures then c.put_done.ensures.written then c.word-2.ensures
