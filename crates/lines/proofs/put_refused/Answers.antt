-- Its texts are put one after another.
use Rattle.lines.specs.Listing.{refused_line}
use Rattle.text.specs.Output.{◌then◌}
use Rattle.text.specs.Words.{word}
use Rattle.lines.proofs.put_refused.Goals as goal

pub returns : goal.returns
unfolding word refused_line
returns c = c.field.ensures.written then c.word.ensures
