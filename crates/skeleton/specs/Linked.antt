-- Rows by which skeleton pairs are found: a mark for each, and the index with their numbers.
use Rattle.std.specs.Prelude.{ℕ, ◌<◌, List, ◌≡◌, T}
use Rattle.ids.specs.Limits.{most_events}
use Rattle.plan.specs.Net.{Plan}
use Rattle.plan.specs.Order.{skeleton}
use Rattle.marks.specs.Marks.{marked}
use Rattle.skeleton.specs.Lists.{Lists}

-- i is a skeleton pair from a to b, one of the first m pairs
pub record IsLink (P : Plan) (m a b i : ℕ) : Type 0 where
  pub named : i < m
  pub bare : T (skeleton P i)
  pub starts : P.earlier i ≡ a
  pub ends : P.later i ≡ b

-- Of the first m pairs the skeleton pairs (a, b) are marked, in row b, and listed in the index.
pub record Linked (P : Plan) (m : ℕ) (skel index : List ℕ) : Type 0 where
  pub links : (a b : ℕ) → a < most_events → b < most_events → T (marked skel b a) → (i : ℕ) × IsLink P m a b i
  pub marks : (i : ℕ) → i < m → T (skeleton P i) → T (marked skel (P.later i) (P.earlier i))
  pub lists : Lists P m index

-- Some plan has the index and a skeleton pair from a to b.
abbrev pub MayFind : List ℕ → ℕ → ℕ → Type 0
MayFind index a b = (P : Plan) × Lists P P.pairs index × (i : ℕ) × IsLink P P.pairs a b i

-- In every plan that has the index i is such a pair.
abbrev pub FoundAt : List ℕ → ℕ → ℕ → ℕ → Type 0
FoundAt index a b i = (P : Plan) → Lists P P.pairs index → IsLink P P.pairs a b i
