-- Compact tokenflows. Document 01, "Compact tokenflow"; 003, definition 5.
use Rattle.std.specs.Prelude.{ℕ, ◌+◌, ◌-◌, Bool, ◌&&◌, ◌||◌, leb, eqb, pos, ◌+ℤ◌, ◌-ℤ◌}
use Rattle.std.specs.Int.Signed.{le_z}
use Rattle.finite.specs.Bounded.{all}
use Rattle.finite.specs.Sum.{sum, at_end}
use Rattle.plan.specs.Net.{Net, Plan, taken_by, given_by}
use Rattle.plan.specs.Order.{skeleton}

-- A flow row for one place: a number for each order pair, then a share of the opening count for each event.
abbrev pub Flow : Type 0
Flow = ℕ → ℕ

-- the share of the event v
abbrev pub share : Plan → Flow → ℕ → ℕ
share P x v = x (P.pairs + v)

-- In(v) is v's share plus the numbers on pairs ending at v.
unfoldable pub inflow : Plan → Flow → ℕ → ℕ
inflow P x v = share P x v + at_end P.pairs P.later x v

-- Out(v) is the sum on pairs starting at v.
unfoldable pub outflow : Plan → Flow → ℕ → ℕ
outflow P x v = at_end P.pairs P.earlier x v

-- what all the shares come to
unfoldable pub shares : Plan → Flow → ℕ
shares P x = sum P.events (λ v. share P x v)

-- 1. In(v) is at least what v takes.
unfoldable pub rule1 : Net → Plan → ℕ → Flow → Bool
rule1 N P p x = all P.events (λ v. leb (taken_by N P p v) (inflow P x v))

-- 2. Out(v) is at most in(v) − takes of v + gives of v.
unfoldable pub rule2 : Net → Plan → ℕ → Flow → Bool
rule2 N P p x =
    all
    P.events
    (λ v. le_z (pos (outflow P x v)) (pos (inflow P x v) -ℤ pos (taken_by N P p v) +ℤ pos (given_by N P p v)))

-- 3. The shares sum to at most the opening count.
unfoldable pub rule3 : Net → Plan → ℕ → Flow → Bool
rule3 N P p x = leb (shares P x) (N.opening p)

-- 4. A pair that isn't a skeleton pair carries 0.
unfoldable pub rule4 : Plan → Flow → Bool
rule4 P x = all P.pairs (λ i. skeleton P i || eqb (x i) 0)

-- A row is valid if all hold: a valid compact tokenflow (003, definition 5).
unfoldable pub valid : Net → Plan → ℕ → Flow → Bool
valid N P p x = rule1 N P p x && rule2 N P p x && rule3 N P p x && rule4 P x

-- A flow otherwise valid meets 1, 2 and 4.
unfoldable pub otherwise_valid : Net → Plan → ℕ → Flow → Bool
otherwise_valid N P p x = rule1 N P p x && rule2 N P p x && rule4 P x

-- The overrun of a row is how far its shares' sum passes the opening count, 0 if it doesn't.
unfoldable pub overrun : Net → Plan → ℕ → Flow → ℕ
overrun N P p x = shares P x - N.opening p
