-- The recursion falls with the number.
use Rattle.text.proofs.Output.+number.Given as goal

abbrev pub decreases-number : goal.decreases-number
decreases-number l = l.n
