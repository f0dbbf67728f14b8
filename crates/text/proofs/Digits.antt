-- The digits of a number: the last one apart from the others, and how many there are.
use Rattle.std.specs.Prelude.{ℕ, zero, suc, ◌+◌, ◌/◌, ◌%◌, ◌^◌, ◌≤◌, ◌<◌, Bool, true, false, List, ◌++◌, ◌≡◌, refl, ltb, length}
use Rattle.std.proofs.Common.{arith, ⊎_elim, sym, ap, subst, ◌∙◌, lt-ltb, le-ltb, ltb→lt, nltb→le, length-append}
use Rattle.finite.specs.Bounded.{decide}
use Rattle.text.specs.Words.{digit, digits, decimal}
use Rattle.text.specs.Put.{Put, put_then}

small : (bound n : ℕ) → n < 10 → digits bound n ≡ digit n
unfolding digits
small zero n l = refl
small (suc bound) n l =
    subst
    (λ (b : Bool). elim b [ true ↦ digit n | false ↦ digits bound (n / 10) ++ digit (n % 10) ] ≡ digit n)
    (sym (lt-ltb n 10 l))
    refl

large : (bound n : ℕ) → 10 ≤ n → digits (suc bound) n ≡ digits bound (n / 10) ++ digit (n % 10)
unfolding digits
large bound n l =
    subst
    (λ (b : Bool). elim b [ true ↦ digit n | false ↦ digits bound (n / 10) ++ digit (n % 10) ] ≡ digits bound (n / 10) ++ digit (n % 10))
    (sym (le-ltb n 10 l))
    refl

tenth : (n bound : ℕ) → 10 ≤ n → n ≤ suc bound → n / 10 ≤ bound
tenth n bound l m = omega arith

-- any bound serves
any_bound : (bound other n : ℕ) → n ≤ bound → n ≤ other → digits bound n ≡ digits other n
any_bound zero other n l m = small zero n (omega arith) ∙ sym (small other n (omega arith))
any_bound (suc bound) zero n l m = small (suc bound) n (omega arith) ∙ sym (small zero n (omega arith))
any_bound (suc bound) (suc other) n l m =
    ⊎_elim
    (λ t. let low = ltb→lt n 10 t in small (suc bound) n low ∙ sym (small (suc other) n low))
    (λ t.
    let high = nltb→le n 10 t in
    large bound n high
    ∙ ap (λ (ds : List ℕ). ds ++ digit (n % 10)) (any_bound bound other (n / 10) (tenth n bound high l) (tenth n other high m))
    ∙ sym (large other n high))
    (decide (ltb n 10))

pub decimal_small : (n : ℕ) → n < 10 → decimal n ≡ digit n
unfolding decimal
decimal_small n l = small n n l

pub decimal_large : (n : ℕ) → 10 ≤ n → decimal n ≡ decimal (n / 10) ++ digit (n % 10)
unfolding decimal
decimal_large zero l = absurd (omega arith)
decimal_large (suc n) l =
    large n (suc n) l
    ∙ ap (λ (ds : List ℕ). ds ++ digit (suc n % 10)) (any_bound n (suc n / 10) (suc n / 10) (tenth (suc n) n l (omega arith)) (omega arith))

pub last_digit : (n : ℕ) → 10 ≤ n → length (decimal n) ≡ length (decimal (n / 10)) + 1
last_digit n l =
    ap length (decimal_large n l) ∙ length-append (decimal (n / 10)) (digit (n % 10))

-- a number below a power of 10 has at most so many
few : (k n : ℕ) → n < 10 ^ suc k → length (decimal n) ≤ suc k
few zero n l = omega (arith, ap length (decimal_small n (omega arith)))
few (suc k) n l =
    ⊎_elim
    (λ t. omega (arith, ap length (decimal_small n (ltb→lt n 10 t))))
    (λ t. omega (arith, last_digit n (nltb→le n 10 t), few k (n / 10) (omega arith)))
    (decide (ltb n 10))

pub ten_digits : (n : ℕ) → n < 2 ^ 32 → length (decimal n) ≤ 10
ten_digits n l = few 9 n (omega arith)

pub room : (n : ℕ) → 1 ≤ length (decimal n)
room n =
    ⊎_elim
    (λ t. omega (arith, ap length (decimal_small n (ltb→lt n 10 t))))
    (λ t. omega (arith, last_digit n (nltb→le n 10 t)))
    (decide (ltb n 10))

-- the last digit put after the others, or alone
pub last_put : {old mid new : List ℕ} {at end last : ℕ} (n : ℕ) → 10 ≤ n → Put old mid at (decimal (n / 10)) end → Put mid new end (digit (n % 10)) last
    → Put old new at (decimal n) last
last_put n high first second = rw (decimal_large n high) (put_then first second)

pub only_put : {old new : List ℕ} {at end : ℕ} (n : ℕ) → n < 10 → Put old new at (digit (n % 10)) end → Put old new at (decimal n) end
only_put n low put = let e : n % 10 ≡ n = omega arith in rw (decimal_small n low) (rw e at put)
