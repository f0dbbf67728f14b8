use Rattle.std.proofs.Common.{true, inl, ◌≡◌, rules}
use borrow.Author.Tests.{not-false}
use Rattle.settle.proofs.Rounds.{covered}
use Rattle.settle.proofs.settle_by_rounds.Goals as goal

-- what is lacking is little enough
pub returns-clause-ended : goal.returns-clause-ended
returns-clause-ended c =
    let enough : c.is_covered.result ≡ true = search (rules, not-false) in
    inl (covered _ _ _ c.is_covered.ensures enough)
