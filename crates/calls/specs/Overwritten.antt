-- A lent row at return: its first numbers are written over, what follows them is neither read nor changed.
use Rattle.std.specs.Prelude.{ℕ, zero, suc, ◌≤◌, ◌<◌, List, [], ◌∷◌, ◌≡◌, refl, ltb, length, get_or}
use Rattle.std.proofs.Common.{arith, ⊎_elim, sym, ap, ◌∙◌, ltb→lt, nltb→le, ext_get_or}
use Rattle.finite.specs.Bounded.{decide}
use Rattle.finite.specs.Filled.{Filled}

-- The first k numbers of a row are written over by those of f.
unfoldable pub overwritten : (ℕ → ℕ) → ℕ → List ℕ → List ℕ
overwritten f zero row = row
overwritten f (suc k) [] = []
overwritten f (suc k) (x ∷ row) = f 0 ∷ overwritten (λ i. f (suc i)) k row

pub over_size : (f : ℕ → ℕ) (k : ℕ) (row : List ℕ) → length (overwritten f k row) ≡ length row
unfolding overwritten
over_size f zero row = refl
over_size f (suc k) [] = refl
over_size f (suc k) (x ∷ row) = ap suc (over_size (λ i. f (suc i)) k row)

pub over_first : (f : ℕ → ℕ) (k : ℕ) (row : List ℕ) (i : ℕ) → i < k → i < length row → get_or (overwritten f k row) i 0 ≡ f i
unfolding overwritten
over_first f zero row i l m = absurd (omega arith)
over_first f (suc k) [] i l m = absurd (omega arith)
over_first f (suc k) (x ∷ row) zero l m = refl
over_first f (suc k) (x ∷ row) (suc i) l m = over_first (λ i. f (suc i)) k row i (omega arith) (omega arith)

pub over_rest : (f : ℕ → ℕ) (k : ℕ) (row : List ℕ) (i : ℕ) → k ≤ i → get_or (overwritten f k row) i 0 ≡ get_or row i 0
unfolding overwritten
over_rest f zero row i l = refl
over_rest f (suc k) [] i l = refl
over_rest f (suc k) (x ∷ row) zero l = absurd (omega arith)
over_rest f (suc k) (x ∷ row) (suc i) l = over_rest (λ i. f (suc i)) k row i (omega arith)

-- A row so filled is that row.
pub filled_is : (f : ℕ → ℕ) (k : ℕ) (old new : List ℕ) → Filled f k old new → new ≡ overwritten f k old
filled_is f k old new h =
    ext_get_or
    0
    new
    (overwritten f k old)
    (h.size ∙ sym (over_size f k old))
    (λ i l.
    ⊎_elim
    (λ t. let low = ltb→lt i k t in h.numbers i low ∙ sym (over_first f k old i low (omega (arith, h.size))))
    (λ t. let high = nltb→le i k t in h.rest i high ∙ sym (over_rest f k old i high))
    (decide (ltb i k)))

-- A faulty call changes no lent row: what a row is at return, by the call's fault and by what a call without one would make of it.
unfoldable pub unless_fault : ℕ → List ℕ → List ℕ → List ℕ
unless_fault zero new row = new
unless_fault (suc fault) new row = row

pub at_fault : (fault : ℕ) (new row : List ℕ) → ¬ (fault ≡ 0) → row ≡ unless_fault fault new row
unfolding unless_fault
at_fault zero new row some = absurd (some refl)
at_fault (suc fault) new row some = refl

pub at_none : (fault : ℕ) (new row : List ℕ) → fault ≡ 0 → new ≡ unless_fault fault new row
unfolding unless_fault
at_none zero new row none = refl
at_none (suc fault) new row none = absurd (omega arith)
