-- Cuts, and the published verdict by them: 001, definitions 5 and 6; 003, definition 3.
use Rattle.std.specs.Prelude.{ℕ, ◌<◌, ◌&&◌, T, pos, ◌≤ℤ◌}
use Rattle.finite.specs.Bounded.{any}
use Rattle.finite.specs.Subset.{Set}
use Rattle.finite.specs.Sum.{over}
use Rattle.plan.specs.Net.{Net, Plan, taken_by}
use Rattle.plan.specs.Order.{Before, before}
use Rattle.plan.specs.Prefix.{tokens}

-- A co-set: no event of it is before another (003, section 2; 001, definition 5).
pub record IsCoset (P : Plan) (C : Set) : Type 0 where
  pub events : (v : ℕ) → T (C v) → v < P.events
  pub unordered : (u v : ℕ) → T (C u) → T (C v) → ¬ Before P u v

-- A cut is a co-set which is not included in any other co-set.
pub record IsCut (P : Plan) (C : Set) : Type 0 where
  pub coset : IsCoset P C
  pub greatest : (E : Set) → IsCoset P E → ((v : ℕ) → T (C v) → T (E v)) → (v : ℕ) → T (E v) → T (C v)

-- The preset of a set of events: every event that is before some member.
unfoldable pub preset : Plan → Set → Set
preset P C v = any P.events (λ w. C w && before P v w)

-- 001, definition 6, and 003, definition 3, at one place and one cut: the opening count and what the events before the cut
-- give and take there cover all that the cut takes.
unfoldable pub Covered : Net → Plan → ℕ → Set → Type 0
Covered N P p C = pos (over P.events C (taken_by N P p)) ≤ℤ tokens N P p (preset P C)

-- The plan is executable with respect to a place: every cut is covered there.
pub record Executable (N : Net) (P : Plan) (p : ℕ) : Type 0 where
  pub cuts : (C : Set) → IsCut P C → Covered N P p C

-- The plan is an execution of the net (003, definition 3), enabled in its opening counts (001, definition 6): every cut is covered at every
-- place of the net.
pub record Execution (N : Net) (P : Plan) : Type 0 where
  pub covered : (p : ℕ) → p < N.places → (C : Set) → IsCut P C → Covered N P p C
