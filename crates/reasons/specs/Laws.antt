-- What the reasons say: a repeat is one of a pair that is kept, the kept pairs are, as a set, those that name two different events, and so their order is
-- the same. On a sheet without fault every pair is kept.
use Rattle.std.specs.Prelude.{ℕ, List, ◌≡◌}
use Rattle.std.proofs.Common.{eqb→eq}
use Rattle.std.proofs.Math.Path.{sym}
use Rattle.std.proofs.Math.Dec.{T, eqb}
use Rattle.std.proofs.Math.Facts.{and_yes, yes_and, yes_eqb}
use Rattle.sheet.specs.Faults.{same_pair}
use Rattle.sheet.specs.Items.{earlier_at, later_at}

-- the same pair
pub record SameEnds (s : List ℕ) (i j : ℕ) : Type 0 where
  pub earlier : earlier_at s i ≡ earlier_at s j
  pub later : later_at s i ≡ later_at s j

module _ (s : List ℕ) where
  pub same_yes : (i j : ℕ) → T (same_pair s i j) → SameEnds s i j
  unfolding same_pair
  same_yes i j t =
      let both = and_yes (eqb (earlier_at s j) (earlier_at s i)) (eqb (later_at s j) (later_at s i)) t in
      record { earlier = sym (eqb→eq (earlier_at s j) (earlier_at s i) both.0); later = sym (eqb→eq (later_at s j) (later_at s i) both.1) }

  pub yes_same : (i j : ℕ) → SameEnds s i j → T (same_pair s i j)
  unfolding same_pair
  yes_same i j same =
      yes_and (eqb (earlier_at s j) (earlier_at s i)) (eqb (later_at s j) (later_at s i)) (yes_eqb (sym same.earlier)) (yes_eqb (sym same.later))
