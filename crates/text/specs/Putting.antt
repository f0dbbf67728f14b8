-- Texts put one after another, and what a loop knows that puts them.
use Rattle.std.specs.Prelude.{ℕ, ◌+◌, ◌*◌, ◌≤◌, ◌<◌, List, ◌++◌, ◌≡◌, length}
use Rattle.std.proofs.Common.{mul-suc, add-one}
use native.Mathlib.Omega.{arith}
use Rattle.finite.specs.Each.{each}
use Rattle.text.specs.Put.{Put, put_none, put_then}

infixl 20 ◌then◌
-- one text after another
pub ◌then◌ : {old mid new : List ℕ} {at : ℕ} {text more : List ℕ} {between end : ℕ} → Put old mid at text between → Put mid new between more end
    → Put old new at (text ++ more) end
◌then◌ first second = put_then first second

-- What a loop knows that has put the first i of n texts, each of at most `most` bytes.
pub record Putting (old row : List ℕ) (at : ℕ) (f : ℕ → List ℕ) (most n i end : ℕ) : Type 0 where
  pub passed : i ≤ n
  pub put : Put old row at (each i f) end
  pub room : end ≤ at + most * i

module _ {old : List ℕ} {at : ℕ} {f : ℕ → List ℕ} {most n : ℕ} where
  pub each_start : at ≤ length old → Putting old old at f most n 0 at
  unfolding each
  each_start l = record { passed = omega arith; put = put_none old at l; room = omega arith }

  pub each_more : {mid new : List ℕ} {i between end : ℕ} → Putting old mid at f most n i between → i < n → Put mid new between (f i) end → end ≤ between + most
      → Putting old new at f most n (i + 1) end
  unfolding each
  each_more {i = i} so_far more here fits =
      record {
        passed = omega arith;
        put = rw (add-one i) (so_far.put then here);
        room = rw (add-one i, mul-suc) (omega (arith, so_far.room));
      }

  pub each_done : {new : List ℕ} {i end : ℕ} → Putting old new at f most n i end → n ≤ i → Put old new at (each n f) end
  each_done {i = i} h l = let e : i ≡ n = omega (arith, h.passed) in rw e at h.put
