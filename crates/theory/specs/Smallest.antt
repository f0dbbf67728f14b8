-- Where something is missing, the done sets with the greatest lack have one that is contained in all the others.
use Rattle.std.specs.Prelude.{ℕ, ◌+◌, ◌<◌, ◌≡◌, ℤ, pos, negsuc}
use native.Mathlib.Omega.{arith}
use Rattle.std.proofs.Common.{ap}
use Rattle.std.proofs.Math.Dec.{T}
use Rattle.finite.specs.Subset.{Set}
use Rattle.plan.specs.Net.{Net, Plan}
use Rattle.plan.specs.Order.{Sound}
use Rattle.plan.specs.Prefix.{IsPrefix, lack, above0, missing}
use Rattle.theory.specs.Least.{taken}
use Rattle.theory.specs.Missing.{supply}

module _ (N : Net) (P : Plan) (p : ℕ) (S : Sound P) where
  -- a done set whose lack is the missing count
  pub record Tight (D : Set) : Type 0 where
    pub prefixed : IsPrefix P D
    pub full : taken N P p D ≡ missing N P p + supply N P p D

pub positive : (z : ℤ) (m : ℕ) → above0 z ≡ m → 0 < m → z ≡ pos m
positive (pos n) m e l = ap pos e
positive (negsuc n) m e l = absurd (omega arith)

-- The smallest done set of the greatest lack: it has that lack, and is contained in every done set that has it.
pub record IsSmallest (N : Net) (P : Plan) (p : ℕ) (D : Set) : Type 0 where
  pub prefixed : IsPrefix P D
  pub lacks : lack N P p D ≡ pos (missing N P p)
  pub least : (E : Set) → IsPrefix P E → lack N P p E ≡ pos (missing N P p) → (v : ℕ) → T (D v) → T (E v)
