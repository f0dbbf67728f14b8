-- The queue lists one member more of a set that is a row of marks.
use Prim.Native.Nat.{ℕ, ◌+◌, ◌-◌, ◌<◌}
use native.Mathlib.Omega.{arith}
use mathlib.Core.List.{List}
use mathlib.Core.Path.{sym, ap, subst}
use Rattle.finite.specs.Count.{count, count_insert, count_le}
use Rattle.finite.specs.Queue.{Queued, queued_more}
use Rattle.finite.specs.Subset.{Set, insert}
use Rattle.search.specs.Row.{members, In}
use Rattle.search.specs.Searched.{Listed}
use Rattle.search.specs.Steps.{Joined}
use Rattle.search.proofs.Gain.{gained}

-- a new member leaves fewer to come
pub fewer_left : {row new list list' : List ℕ} {x at y : ℕ} → Joined row new x list list' at y → (In row x → ⊥)
    → 256 - count 256 (members new) < 256 - count 256 (members row)
fewer_left {row} {x = x} j fresh =
    omega (arith, count_insert 256 x (members row) j.event fresh, count_le 256 (insert x (members row)), ap (count 256) (gained j))

pub listed_more : {row new queue queue' : List ℕ} {tail x : ℕ} → Joined row new x queue queue' tail x → (In row x → ⊥)
    → Listed row queue tail → Listed new queue' (tail + 1)
listed_more {queue' = queue'} {tail = tail} {x = x} j fresh q =
    subst (λ (S : Set). Queued 256 S queue' (tail + 1)) (sym (gained j)) (queued_more q x j.event fresh j.put)
