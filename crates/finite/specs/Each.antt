-- Lists one after another.
use Rattle.std.specs.Prelude.{ℕ, zero, suc, ◌+◌, ◌*◌, ◌<◌, List, [], ◌++◌, ◌≡◌, refl, length}
use Rattle.std.proofs.Math.Nat.{le_step}
use Rattle.std.proofs.Common.{lt-suc_self, mul-suc, arith, ap₂, length-append}

-- the lists f 0, .., f (n - 1)
unfoldable pub each : ℕ → (ℕ → List ℕ) → List ℕ
each zero f = []
each (suc n) f = each n f ++ f n

-- lists that agree below n
pub each_ext : (n : ℕ) (f g : ℕ → List ℕ) → ((i : ℕ) → i < n → f i ≡ g i) → each n f ≡ each n g
unfolding each
each_ext zero f g h = refl
each_ext (suc n) f g h = ap₂ ◌++◌ (each_ext n f g (λ i l. h i (le_step l))) (h n (lt-suc_self n))

-- lists of w numbers each
pub each_length : (w n : ℕ) (f : ℕ → List ℕ) → ((i : ℕ) → i < n → length (f i) ≡ w) → length (each n f) ≡ w * n
unfolding each
each_length w zero f h = omega arith
each_length w (suc n) f h =
    rw mul-suc (omega (arith, length-append (each n f) (f n), each_length w n f (λ i l. h i (le_step l)), h n (lt-suc_self n)))
