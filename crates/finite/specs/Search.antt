-- A search below a bound: what a loop knows that tests each number in turn and stops at the first that passes, or that fails.
use Rattle.std.specs.Prelude.{ℕ, zero, suc, ◌+◌, ◌<◌, ◌≤◌, Bool, true, false, ◌≡◌, refl, T}
use Rattle.std.proofs.Math.Nat.{le_step}
use Rattle.std.proofs.Common.{lt-suc_self, arith, add-one, sym, subst}
use denote.Floats.{passes, is_true}
use Rattle.std.specs.Float.Ieee.Bits.{is_false}
use Rattle.std.proofs.Math.Facts.{not_T}
use Rattle.finite.specs.Bounded.{all, any, all_yes, yes_any}

pub fails : (b : Bool) → b ≡ false → T b → ⊥
fails b e t = subst T e t

pub search_start : (f : ℕ → Bool) → any 0 f ≡ false
unfolding any
search_start f = refl

pub search_more : (f : ℕ → Bool) (i : ℕ) → any i f ≡ false → f i ≡ false → any (i + 1) f ≡ false
unfolding any
search_more f i none here = rw add-one (simp (none, here))

-- the bound is handed in as n and stands in the definition as m
pub search_found : (n m : ℕ) (f : ℕ → Bool) (i : ℕ) → n ≡ m → i < n → f i ≡ true → true ≡ any m f
search_found n m f i e l here =
    sym (is_true (any m f) (yes_any m f i (omega arith) (passes (f i) here)))

pub search_done : (n m : ℕ) (f : ℕ → Bool) (i : ℕ) → n ≡ m → i ≤ n → n ≤ i → any i f ≡ false → false ≡ any m f
search_done n m f i e l k none = let same : m ≡ i = omega arith in sym (rw same none)

-- a search that found nothing
pub search_none : (n : ℕ) (f : ℕ → Bool) → any n f ≡ false → (i : ℕ) → i < n → f i ≡ false
search_none n f none i l =
    is_false (f i) (not_T (f i) (λ t. fails (any n f) none (yes_any n f i l t)))

-- where no number passes, nothing is found
pub nothing_found : (n : ℕ) (f : ℕ → Bool) → ((i : ℕ) → i < n → f i ≡ false) → any n f ≡ false
unfolding any
nothing_found zero f h = refl
nothing_found (suc n) f h = simp (nothing_found n f (λ i l. h i (le_step l)), h n (lt-suc_self n))

-- The same where each number has to pass.
pub all_start : (f : ℕ → Bool) → all 0 f ≡ true
unfolding all
all_start f = refl

pub all_more : (f : ℕ → Bool) (i : ℕ) → all i f ≡ true → f i ≡ true → all (i + 1) f ≡ true
unfolding all
all_more f i so_far here = rw add-one (simp (so_far, here))

pub all_broken : (n m : ℕ) (f : ℕ → Bool) (i : ℕ) → n ≡ m → i < n → f i ≡ false → false ≡ all m f
all_broken n m f i e l here =
    sym (is_false (all m f) (not_T (all m f) (λ t. fails (f i) here (all_yes m f t i (omega arith)))))

pub all_done : (n m : ℕ) (f : ℕ → Bool) (i : ℕ) → n ≡ m → i ≤ n → n ≤ i → all i f ≡ true → true ≡ all m f
all_done n m f i e l k passed = let same : m ≡ i = omega arith in sym (rw same passed)
