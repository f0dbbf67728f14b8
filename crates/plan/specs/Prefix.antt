-- Done sets, what a place lacks at them, and the verdict. Document 01, "Net, plan and verdict".
-- Document 01's done set is the field's prefix (003, section 2; 002, section 3), its front the minimal events of the rest.
use Rattle.std.specs.Prelude.{ℕ, ◌<◌, Bool, not, ◌&&◌, T, eqb, ltb, ℤ, pos, negsuc, ◌+ℤ◌, ◌-ℤ◌}
use Rattle.finite.specs.Bounded.{all, ◌⇒◌}
use Rattle.finite.specs.Subset.{Set, greatest, every}
use Rattle.finite.specs.Sum.{over, on}
use Rattle.plan.specs.Net.{Net, Plan, taken_by, given_by}
use Rattle.plan.specs.Order.{Before, before}

-- A done set is a set of events that holds, with each member, everything before it. 002, section 3: a prefix.
pub record IsPrefix (P : Plan) (D : Set) : Type 0 where
  pub events : (v : ℕ) → T (D v) → v < P.events
  pub closed : (u v : ℕ) → Before P u v → T (D v) → T (D u)

-- The test of it, for a set of events.
unfoldable pub prefix : Plan → Set → Bool
prefix P D = all P.events (λ v. all P.events (λ u. (D v && before P u v) ⇒ D u))

-- The front of a done set is every event outside it whose predecessors are all inside it.
unfoldable pub front : Plan → Set → Set
front P D v = not (D v) && all P.events (λ u. before P u v ⇒ D u)

-- At a place, the tokens after a done set are opening + gives of its members − takes of its members.
unfoldable pub tokens : Net → Plan → ℕ → Set → ℤ
tokens N P p D =
    pos (N.opening p) +ℤ pos (over P.events D (given_by N P p)) -ℤ pos (over P.events D (taken_by N P p))

-- What events that begin together after a done set lack: their takes − those tokens. In the field's terms, the deficit of a step.
abbrev pub step_lack : Net → Plan → ℕ → Set → Set → ℤ
step_lack N P p D E = pos (over P.events E (taken_by N P p)) -ℤ tokens N P p D

-- The lack of a done set is the takes of its front − those tokens: what its whole front lacks.
unfoldable pub lack : Net → Plan → ℕ → Set → ℤ
lack N P p D = step_lack N P p D (front P D)

-- a whole number, or 0 if it isn't above 0
abbrev pub above0 : ℤ → ℕ
above0 (pos n) = n
above0 (negsuc n) = 0

-- The missing count of a place is the greatest lack over all done sets, or 0 if none is above 0. In the field's terms, the least
-- addition to the initial marking of the place with which the plan is executable there.
unfoldable pub missing : Net → Plan → ℕ → ℕ
missing N P p = greatest P.events (λ D. on (prefix P D) (above0 (lack N P p D)))

-- What a done set needs of the opening count: takes of its members + takes of its front − gives of its members. It doesn't know the
-- opening count: the lack is what it is above that.
unfoldable pub need : Net → Plan → ℕ → Set → ℤ
need N P p D =
    pos (over P.events D (taken_by N P p)) +ℤ pos (over P.events (front P D) (taken_by N P p)) -ℤ pos (over P.events D (given_by N P p))

-- The least opening count with which the plan runs at a place: the greatest need over all done sets. The empty set's is never below 0.
unfoldable pub least_opening : Net → Plan → ℕ → ℕ
least_opening N P p = greatest P.events (λ D. on (prefix P D) (above0 (need N P p D)))

-- The spare count of a place is the opening count − the least opening count, with its sign: how many tokens the place could lose, or, below
-- 0, how many are missing. Document 02, A3.
unfoldable pub spare : Net → Plan → ℕ → ℤ
spare N P p = pos (N.opening p) -ℤ pos (least_opening N P p)

-- A plan runs at a place if its missing count is 0, and runs if that holds at every place.
unfoldable pub runs_at : Net → Plan → ℕ → Bool
runs_at N P p = eqb (missing N P p) 0

unfoldable pub runs : Net → Plan → Bool
runs N P = all N.places (λ p. runs_at N P p)

-- Where the missing count is above 0, the done set contained in all those that have that lack: what they have in common.
unfoldable pub smallest : Net → Plan → ℕ → Set
smallest N P p v =
    every P.events (λ D. (prefix P D && eqb (above0 (lack N P p D)) (missing N P p)) ⇒ D v)

-- The full set: every event. `Theorems.extremes` says that it is a done set, and so is the empty set.
abbrev pub full : Plan → Set
full P v = ltb v P.events

-- The end count of a place is the tokens after the full set.
unfoldable pub end_count : Net → Plan → ℕ → ℤ
end_count N P p = tokens N P p (full P)
