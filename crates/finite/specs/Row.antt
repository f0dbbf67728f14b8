-- Rows of numbers: of zeros, and with one number raised.
use Rattle.std.specs.Prelude.{ℕ, zero, suc, ◌+◌, ◌≤◌, ◌<◌, List, ◌≡◌, refl, eqb, length, get_or, set, replicate}
use Rattle.std.proofs.Common.{arith, ⊎_elim, sym, subst, T_not, eqb→eq, get_or-set_same, get_or-set_other}
use Rattle.std.proofs.Math.Dec.{eqb_refl}
use Rattle.std.proofs.lemmas.List.{length-replicate}
use Rattle.std.proofs.Math.Facts.{eqb_no}
use Rattle.finite.specs.Bounded.{decide}
use Rattle.finite.specs.Sum.{on, on_yes, on_no}

pub zeros : (n i : ℕ) → ◌≡◌ {A = ℕ} (get_or (replicate n 0) i 0) 0
zeros zero i = refl
zeros (suc n) zero = refl
zeros (suc n) (suc i) = zeros n i

-- k zeros have room for n numbers; for any k, since a proof about a long row takes long where its zeros are counted one by one
pub zeros_room : (n k : ℕ) → n ≤ k → n ≤ length (replicate {A = ℕ} k 0)
zeros_room n k l = omega (arith, length-replicate {A = ℕ} k 0)

-- k more at i, and all else as it was
pub raised_at : (row : List ℕ) (i k : ℕ) → i < length row → (v : ℕ) → get_or (set row i (get_or row i 0 + k)) v 0 ≡ get_or row v 0 + on (eqb i v) k
raised_at row i k l v =
    ⊎_elim
    (λ t.
    subst
    (λ (w : ℕ). get_or (set row i (get_or row i 0 + k)) w 0 ≡ get_or row w 0 + on (eqb i w) k)
    (eqb→eq i v t)
    (omega (arith, get_or-set_same row i (get_or row i 0 + k) 0 l, on_yes (eqb i i) k (eqb_refl i))))
    (λ t.
    omega (
      arith,
      get_or-set_other row i v (get_or row i 0 + k) 0 (λ e. eqb_no t (sym e)),
      on_no (eqb i v) k (T_not (eqb i v) t),
    ))
    (decide (eqb i v))
