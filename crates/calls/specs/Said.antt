-- What the answer of a call says. Document 01, "How to write each place": where an answer is an enum, a definition gives the fault's number and
-- its item (document 02, A2), and the values, for each of the enum's cases, and the promises use it.
use Rattle.std.specs.Prelude.{ℕ, zero, suc, ◌≡◌, Result, Ok, Err}
use Rattle.sheet.specs.declared.Fault.{Fault}
use Rattle.sheet.specs.Answered.{told, told_some, told_once}
use Rattle.std.proofs.Common.{arith, sym, ap, ◌∙◌}
use Rattle.std.proofs.Math.Option.{Option, none, some, some-injective, none-ne-some}
use Rattle.std.proofs.Math.Path.{refl}
use Rattle.sheet.specs.Told.{no_fault, Told}

-- the fault, its number and its item, both 0 for none; and the values of an answer that isn't a refusal
pub record Said (A : Type 0) : Type 0 where
  pub fault : Told
  pub values : Option A

same_fault : (f g : Told) → f.number ≡ g.number → f.item ≡ g.item → f ≡ g
same_fault f g number item = λ i. record { number = number i; item = item i }

module _ {A : Type 0} where
  -- a case that refuses the call
  abbrev pub refusal : Told → Said A
  refusal f = record { fault = f; values = none }

  -- any other case
  abbrev pub answer : A → Said A
  answer x = record { fault = no_fault; values = some x }

  abbrev by_number : ℕ → Told → A → Said A
  by_number zero f x = answer x
  by_number (suc k) f x = refusal f

  -- what a call has to say that has this fault, and these values if it has none
  unfoldable pub unless_refused : Told → A → Said A
  unless_refused f x = by_number f.number f x

  by_none : (k : ℕ) (f : Told) (x : A) → k ≡ 0 → by_number k f x ≡ answer x
  by_none zero f x e = refl
  by_none (suc k) f x e = absurd (omega arith)

  by_some : (k : ℕ) (f : Told) (x : A) → ¬ (k ≡ 0) → by_number k f x ≡ refusal f
  by_some zero f x n = absurd (n refl)
  by_some (suc k) f x n = refl

  pub said_answer : (f : Told) (x : A) → f.number ≡ 0 → unless_refused f x ≡ answer x
  unfolding unless_refused
  said_answer f x clear = by_none f.number f x clear

  pub said_refusal : (f : Told) (x : A) → ¬ (f.number ≡ 0) → unless_refused f x ≡ refusal f
  unfolding unless_refused
  said_refusal f x there = by_some f.number f x there

  by_fault : (k : ℕ) (f : Told) (x : A) → k ≡ f.number → (by_number k f x).fault.number ≡ 0 → f.number ≡ 0
  by_fault zero f x same e = sym same
  by_fault (suc k) f x same e = e

  -- where no fault is said, there is none
  pub said_clear : (f : Told) (x : A) → (unless_refused f x).fault.number ≡ 0 → f.number ≡ 0
  unfolding unless_refused
  said_clear f x e = by_fault f.number f x refl e

  -- a refusal with the number and the item that are due is what has to be said
  pub told_refusal : {f g : Told} (x : A) → f.number ≡ g.number → f.item ≡ g.item → ¬ (g.number ≡ 0) → refusal f ≡ unless_refused g x
  told_refusal {f} {g} x number item there = ap refusal (same_fault f g number item) ∙ sym (said_refusal g x there)

  -- values are told only where there is no fault, and then they are these
  by_values : (k : ℕ) (f : Told) (x y : A) → (by_number k f x).values ≡ some y → x ≡ y
  by_values zero f x y e = some-injective x y e
  by_values (suc k) f x y e = absurd (none-ne-some y e)

  pub values_said : (f : Told) (x y : A) → (unless_refused f x).values ≡ some y → x ≡ y
  unfolding unless_refused
  values_said f x y e = by_values f.number f x y e

  by_clear : (k : ℕ) (f : Told) (x y : A) → (by_number k f x).values ≡ some y → k ≡ 0
  by_clear zero f x y e = refl
  by_clear (suc k) f x y e = absurd (none-ne-some y e)

  pub values_clear : (f : Told) (x y : A) → (unless_refused f x).values ≡ some y → f.number ≡ 0
  unfolding unless_refused
  values_clear f x y e = by_clear f.number f x y e

  -- two refusals, or two answers, that say the same
  pub refusal_same : (f g : Told) → refusal f ≡ refusal g → f ≡ g
  refusal_same f g e = ap (λ (said : Said A). said.fault) e

  pub answer_same : (x y : A) → answer x ≡ answer y → x ≡ y
  answer_same x y e = some-injective x y (ap (λ (said : Said A). said.values) e)

  -- and a refusal never says what an answer says
  pub refusal_apart : (f : Told) (x : A) → ¬ (refusal f ≡ answer x)
  refusal_apart f x e = none-ne-some x (ap (λ (said : Said A). said.values) e)

-- What the answer of a call says, where a function gives the values of what it answers with: the fault, or these values.
abbrev pub says_by : {A B : Type 0} → (A → B) → Result A Fault → Said B
says_by values (Ok x) = answer (values x)
says_by values (Err f) = refusal (told f)

-- what it says where it answers with the values themselves
abbrev pub says : {A : Type 0} → Result A Fault → Said A
says (Ok x) = answer x
says (Err f) = refusal (told f)

-- Nothing is left free: answers that say the same are the same.
pub said_once_by : {A B : Type 0} (values : A → B) → ((x y : A) → values x ≡ values y → x ≡ y) → (r t : Result A Fault) → says_by values r ≡ says_by values t → r ≡ t
said_once_by values once (Ok x) (Ok y) e = ap Ok (once x y (answer_same (values x) (values y) e))
said_once_by values once (Ok x) (Err g) e = absurd (refusal_apart (told g) (values x) (sym e))
said_once_by values once (Err f) (Ok y) e = absurd (refusal_apart (told f) (values y) e)
said_once_by values once (Err f) (Err g) e = ap Err (told_once f g (refusal_same (told f) (told g) e))

pub said_once : {A : Type 0} (r t : Result A Fault) → says r ≡ says t → r ≡ t
said_once (Ok x) (Ok y) e = ap Ok (answer_same x y e)
said_once (Ok x) (Err g) e = absurd (refusal_apart (told g) x (sym e))
said_once (Err f) (Ok y) e = absurd (refusal_apart (told f) y e)
said_once (Err f) (Err g) e = ap Err (told_once f g (refusal_same (told f) (told g) e))

-- what a call that has a fault, and one that has none, has to say
pub said_err : {A : Type 0} (f : Fault) (g : Told) (x : A) → told f ≡ g → refusal (told f) ≡ unless_refused g x
said_err f g x is = sym (ap (λ (t : Told). unless_refused t x) (sym is) ∙ said_refusal (told f) x (told_some f))

pub said_ok : {A : Type 0} (g : Told) (x : A) → no_fault ≡ g → answer x ≡ unless_refused g x
said_ok g x is = sym (said_answer g x (ap (λ (t : Told). t.number) (sym is)))
