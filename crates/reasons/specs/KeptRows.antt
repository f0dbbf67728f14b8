-- The kept pairs in rows, of marks and of events, and the reason of a pair by those before it.
use Rattle.std.specs.Prelude.{ℕ, ◌+◌, ◌<◌, Bool, ◌&&◌, ◌||◌, List, ◌≡◌, eqb, leb, length, get_or}
use Rattle.closure.specs.PlanRows.{Marks}
use Rattle.finite.specs.Bounded.{any}
use Rattle.finite.specs.Chosen.{chosen}
use Rattle.finite.specs.Queue.{Stored}
use Rattle.marks.specs.Marks.{marked, MarkAdded}
use Rattle.sheet.specs.Items.{earlier_at, later_at}
use Rattle.sheet.specs.Table.{pairs_of}
use Rattle.reasons.specs.declared.KeptPairs.{KeptPairs}
use Rattle.reasons.specs.Reasons.{reason, kept, kept_count, names_two}

-- Those of the first m pairs that are kept, in two rows: that of the earlier events and that of the later ones.
pub record HoldsKept (s : List ℕ) (m : ℕ) (from to : List ℕ) : Type 0 where
  pub earlier : (k : ℕ) → k < length (chosen m (kept s)) → get_or from k 0 ≡ earlier_at s (get_or (chosen m (kept s)) k 0)
  pub later : (k : ℕ) → k < length (chosen m (kept s)) → get_or to k 0 ≡ later_at s (get_or (chosen m (kept s)) k 0)

-- All pairs that are kept, and how many they are.
pub record KeptOf (s : List ℕ) (pairs : KeptPairs) : Type 0 where
  pub count : pairs.count ≡ kept_count s
  pub holds : HoldsKept s (pairs_of s) pairs.from pairs.to

-- pair i is (u, v), and names two different events
abbrev pub proper_at : List ℕ → ℕ → ℕ → ℕ → Bool
proper_at s u v i = names_two s i && (eqb u (earlier_at s i) && eqb v (later_at s i))

-- (u, v) is one of the first m pairs, and names two different events
unfoldable pub is_proper : List ℕ → ℕ → ℕ → ℕ → Bool
is_proper s m u v = any m (proper_at s u v)

-- The first m pairs are marked, but for those that don't name two different events. A repeat adds no mark, so these are the kept ones.
abbrev pub KeptRows : List ℕ → ℕ → List ℕ → Type 0
KeptRows s m = Marks (is_proper s m)

-- the reason of the pair (a, b) after those that are marked
abbrev pub reason_by : ℕ → List ℕ → ℕ → ℕ → ℕ
reason_by events succ a b = reason (leb events a || leb events b) (eqb a b) (marked succ a b)

-- The pair (a, b) is put behind the others.
pub record Pushed (old new : KeptPairs) (a b : ℕ) : Type 0 where
  pub earlier : Stored old.from new.from old.count a
  pub later : Stored old.to new.to old.count b
  pub more : new.count ≡ old.count + 1

-- A pair with a reason is marked and put behind the others if it is kept.
pub record KeptOrDropped (marks marks' : List ℕ) (old new : KeptPairs) (a b reason : ℕ) : Type 0 where
  pub keeps : reason ≡ 0 → MarkAdded marks marks' a b × Pushed old new a b
  pub drops : ¬ (reason ≡ 0) → (marks' ≡ marks) × (new ≡ old)
