-- Where what is lacking is little enough, nothing is moved.
use Rattle.std.proofs.Common.{true, inl, ◌≡◌, rules}
use borrow.Author.Tests.{not-false}
use Rattle.settle.proofs.Rounds.{covered}
use Rattle.settle.proofs.settle.Goals as goal

pub returns-else-not-is_covered-clause-ended : goal.returns-else-not-is_covered-clause-ended
returns-else-not-is_covered-clause-ended c =
    let enough : c.is_covered.result ≡ true = search (rules, not-false) in
    inl (covered _ _ _ c.is_covered.ensures enough)
