-- How a fault is told. Document 02, A2: its number and beside it the item at fault, 0 where it has none.
use Rattle.std.specs.Prelude.{ℕ, zero, suc, ◌<◌, ◌≤◌, Bool, true, false, ◌≡◌, refl}
use Rattle.std.proofs.Common.{arith, sym, ap, ap₂, ◌∙◌}
use Rattle.std.proofs.Math.Option.{Option, none, some, some-ne-none, none-ne-some, some-injective}
use Rattle.finite.specs.Bounded.{any}
use Rattle.finite.specs.First.{first}
use Rattle.finite.proofs.First.{first_found, first_done}

-- what is told of a fault
pub record Told : Type 0 where
  pub number : ℕ
  pub item : ℕ

-- the fault with a number, at an item
abbrev pub fault_at : ℕ → ℕ → Told
fault_at k i = record { number = k; item = i }

-- where there is no fault both are 0
abbrev pub no_fault : Told
no_fault = fault_at 0 0

-- the fault k of the item that was found
abbrev pub tell : ℕ → Option ℕ → Told
tell k none = no_fault
tell k (some i) = fault_at k i

-- what is found by a test of a fault that has no item
abbrev pub plain : Bool → Option ℕ
plain true = some 0
plain false = none

abbrev pub unless : ℕ → Told → Told → Told
unless zero f g = g
unless (suc k) f g = f

-- The fault that is told where two are looked for, one after the other: the first, or if there is none the second.
unfoldable pub or_else : Told → Told → Told
or_else f g = unless f.number f g

-- ---- what a chain of tests knows that stops at the first fault

unless_none : (k : ℕ) (f g : Told) → k ≡ 0 → unless k f g ≡ g
unless_none zero f g e = refl
unless_none (suc k) f g e = absurd (omega arith)

unless_some : (k : ℕ) (f g : Told) → ¬ (k ≡ 0) → unless k f g ≡ f
unless_some zero f g n = absurd (n refl)
unless_some (suc k) f g n = refl

pub else_next : (f g : Told) → f.number ≡ 0 → or_else f g ≡ g
unfolding or_else
else_next f g e = unless_none f.number f g e

pub else_first : (f g : Told) → ¬ (f.number ≡ 0) → or_else f g ≡ f
unfolding or_else
else_first f g n = unless_some f.number f g n

-- the last fault that is looked for
pub else_last : (k : ℕ) (o : Option ℕ) → 0 < k → or_else (tell k o) no_fault ≡ tell k o
else_last k none l = else_next no_fault no_fault refl
else_last k (some i) l = else_first (fault_at k i) no_fault (λ z. omega arith)

pub plain_none : (b : Bool) → plain b ≡ none → b ≡ false
plain_none true e = absurd (some-ne-none 0 e)
plain_none false e = refl

-- a fault as the code tells it, by its number and item
pub as_told : {r f : Told} (k i : ℕ) {n j : ℕ} → r ≡ fault_at n j → n ≡ k → j ≡ i → fault_at k i ≡ f → r ≡ f
as_told k i is number item told = is ∙ ap₂ fault_at number item ∙ told

-- a fault without item is found at 0
pub plain_item : (b : Bool) (i : ℕ) → plain b ≡ some i → (b ≡ true) × (i ≡ 0)
plain_item true i e = (refl, sym (some-injective 0 i e))
plain_item false i e = absurd (none-ne-some i e)

-- a fault above 0 that isn't told wasn't found
pub tell_none : (k : ℕ) (o : Option ℕ) {r : Told} → 0 < k → r ≡ tell k o → r.number ≡ 0 → o ≡ none
tell_none k none l is e = refl
tell_none k (some i) l is e = absurd (omega (arith, ap (λ (f : Told). f.number) is))

-- What a loop tells that looks at each item in turn: the first at fault, or no fault once all are seen. The bound is handed in as n and stands
-- in the definition as m.
module _ (k : ℕ) (f : ℕ → Bool) (n m : ℕ) {r : Told} where
  pub item_found : (i : ℕ) → n ≡ m → i < n → any i f ≡ false → f i ≡ true → r ≡ fault_at k i → r ≡ tell k (first m f)
  item_found i e l so_far here is = is ∙ ap (tell k) (sym (first_found f n m i e l so_far here))

  pub item_done : (i : ℕ) → n ≡ m → n ≤ i → any i f ≡ false → r ≡ no_fault → r ≡ tell k (first m f)
  item_done i e l so_far is = is ∙ ap (tell k) (sym (first_done f n m i e l so_far))
