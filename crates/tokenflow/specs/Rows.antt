-- A tokenflow on "before" at one place, in rows of numbers and marks: who feeds whom, what givers have free, what takers lack.
use Rattle.std.specs.Prelude.{ℕ, ◌+◌, ◌*◌, ◌≤◌, ◌<◌, List, ◌≡◌, ◌⊎◌, T, eqb, length, get_or}
use Rattle.finite.specs.Sum.{on}
use Rattle.ids.specs.Limits.{most_events}
use Rattle.marks.specs.Marks.{marked}

-- The tokens that u gives and w takes: the number counts where the mark (u, w) is set. A giver has a number for each event.
unfoldable pub fed_by : List ℕ → List ℕ → ℕ → ℕ → ℕ
fed_by amount fed u w = on (marked fed u w) (get_or amount (u * most_events + w) 0)

-- Marks are set only where tokens flow.
pub record Exact (amount fed : List ℕ) : Type 0 where
  pub flows : (u w : ℕ) → u < most_events → w < most_events → T (marked fed u w) → 0 < fed_by amount fed u w

-- The second amounts have k tokens more from u to w, and are else the first. Marks are those of the first, and perhaps (u, w).
pub record Raised (amount fed amount' fed' : List ℕ) (u w k : ℕ) : Type 0 where
  pub size : length amount' ≡ length amount
  pub more : (a b : ℕ) → a < most_events → b < most_events → fed_by amount' fed' a b ≡ fed_by amount fed a b + on (eqb u a) (on (eqb w b) k)
  pub kept : (a b : ℕ) → b < most_events → T (marked fed a b) → T (marked fed' a b)
  pub added : (a b : ℕ) → b < most_events → T (marked fed' a b) → T (marked fed a b) ⊎ ((a ≡ u) × (b ≡ w))

-- The second row has k less at i, and is else the first.
pub record Lowered (row row' : List ℕ) (i k : ℕ) : Type 0 where
  pub less : (a : ℕ) → get_or row a 0 ≡ get_or row' a 0 + on (eqb i a) k

-- Which rows a `Flow` refers to: the ghost name of each. While they stay, what is written is written to the rows that were lent.
pub record RowNames : Type 0 where
  pub amount : ℕ
  pub fed : ℕ
  pub free : ℕ
  pub share : ℕ

-- The rows of a tokenflow: amounts and their marks, what each giver has free, what each taker lacks, and which rows these are.
pub record Rows : Type 0 where
  pub amount : List ℕ
  pub fed : List ℕ
  pub free : List ℕ
  pub share : List ℕ
  pub names : RowNames

-- rows that no `Flow` refers to, put together from lists
abbrev pub rows : List ℕ → List ℕ → List ℕ → List ℕ → Rows
rows a f r s = record { amount = a; fed = f; free = r; share = s; names = record { amount = 0; fed = 0; free = 0; share = 0 } }

-- The second rows are the first with k tokens drawn from u for w, and no others.
pub record Drawn (r r' : Rows) (u w k : ℕ) : Type 0 where
  pub raised : Raised r.amount r.fed r'.amount r'.fed u w k
  pub spent : Lowered r.free r'.free u k
  pub covered : Lowered r.share r'.share w k
  pub names : r.names ≡ r'.names

-- k tokens may be drawn from u for w: the one has them free, and the other lacks them.
pub record MayDraw (r : Rows) (u w k : ℕ) : Type 0 where
  pub giver : u < most_events
  pub taker : w < most_events
  pub room : u * most_events + w < length r.amount
  pub free : k ≤ get_or r.free u 0
  pub lacks : k ≤ get_or r.share w 0
  pub fits : fed_by r.amount r.fed u w + k < 4294967296

-- k tokens that u feeds to w may be given back.
pub record MayGiveBack (r : Rows) (u w k : ℕ) : Type 0 where
  pub giver : u < most_events
  pub taker : w < most_events
  pub room : u * most_events + w < length r.amount
  pub feeds : T (marked r.fed u w)
  pub given : k ≤ get_or r.amount (u * most_events + w) 0
  pub free_fits : get_or r.free u 0 + k < 4294967296
  pub share_fits : get_or r.share w 0 + k < 4294967296
