-- The mark of an event. Document 01, "Place judgement": 1 for the members of the done set of a short place, else 0.
use Rattle.std.specs.Prelude.{ℕ, cond, ◌&&◌, ltb}
use Rattle.finite.specs.Subset.{Set}

-- with m tokens missing and the set D, the mark of v
unfoldable pub mark_in : ℕ → Set → ℕ → ℕ
mark_in m D v = cond (ltb 0 m && D v) 1 0
