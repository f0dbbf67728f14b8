-- The mark of an event, by the two tests of it.
use Prim.Native.Nat.{ℕ, ◌<◌}
use native.Mathlib.Omega.{arith}
use mathlib.Core.Bool.{Bool, true, false, cond, ◌&&◌}
use mathlib.Core.List.{List}
use mathlib.Core.Path.{◌≡◌, refl, sym, ap, ◌∙◌}
use borrow.Author.Tests.{lt-ltb, le-ltb}
use lib.Dec.{ltb}
use mir.Val.{bool_byte}
use Rattle.finite.specs.Subset.{Set}
use Rattle.ids.specs.Limits.{most_events}
use Rattle.marks.specs.Marks.{marked}
use Rattle.search.specs.Row.{members, member_told}
use Rattle.done_set.specs.Mark.{mark_in}

byte_of : (b : Bool) → bool_byte b ≡ cond {A = ℕ} b 1 0
byte_of true = refl
byte_of false = refl

-- the byte of a test that asks both things
told_byte : {r : ℕ} (m : ℕ) (D : Set) (v : ℕ) {b : Bool} → r ≡ bool_byte b → b ≡ (ltb 0 m && D v) → r ≡ mark_in m D v
unfolding mark_in
told_byte m D v is e = is ∙ ap bool_byte e ∙ byte_of _

-- nothing is missing
pub mark_none : {r : ℕ} (m : ℕ) (D : Set) (v : ℕ) {b : Bool} → m ≡ 0 → r ≡ bool_byte b → b ≡ ltb 0 m → r ≡ mark_in m D v
mark_none m D v none is e = told_byte m D v is (e ∙ le-ltb 0 m (omega (arith, none)) ∙ sym (ap (λ (x : Bool). x && D v) (le-ltb 0 m (omega (arith, none)))))

-- something is, and the mark of v in the row says whether it is a member
pub mark_some : {r : ℕ} (m : ℕ) (set : List ℕ) (v : ℕ) {a b : Bool} → 0 < m → v < most_events → a ≡ marked set 0 v → r ≡ bool_byte b → b ≡ a → r ≡ mark_in m (members set) v
mark_some m set v {a} some near test is e =
    told_byte m (members set) v is (e ∙ sym (member_told set v a near test refl) ∙ sym (ap (λ (x : Bool). x && members set v) (lt-ltb 0 m some)))
