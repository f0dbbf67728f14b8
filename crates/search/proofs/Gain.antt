-- A row of marks, as a set, that gains one member.
use Prim.Native.Nat.{ℕ, ◌<◌}
use mathlib.Core.Bool.{◌||◌}
use mathlib.Core.List.{List}
use mathlib.Core.Logic.{⊎_elim}
use mathlib.Core.Path.{◌≡◌, sym, subst}
use lib.Dec.{T, eqb, eqb→eq, eqb_refl}
use lib.ListN.{replicate}
use mir.Facts.{or_yes}
use Rattle.finite.specs.Bounded.{yes_or_left, yes_or_right}
use Rattle.finite.specs.Search.{fails}
use Rattle.finite.specs.Subset.{Set, insert, set_ext}
use Rattle.marks.specs.Marks.{marked, none_marked}
use Rattle.search.specs.Row.{members, In, Empty, in_below, in_marked, marked_in}
use Rattle.search.specs.Steps.{Joined}

pub zeros_empty : (n : ℕ) → Empty (replicate n 0)
zeros_empty n v h = fails (marked (replicate n 0) 0 v) (none_marked n 0 v) (in_marked (replicate n 0) v h)

module _ {old new list list' : List ℕ} {x at y : ℕ} (j : Joined old new x list list' at y) where
  pub gained : members new ≡ insert x (members old)
  gained = set_ext (members new) (insert x (members old)) to from
    where
      is : (v : ℕ) → v < 256 → marked new 0 v ≡ (marked old 0 v || eqb v x)
      is v h = j.mark.marks 0 v h

      to : (v : ℕ) → In new v → T (eqb v x || members old v)
      to v h =
          ⊎_elim
          (λ t. yes_or_right (eqb v x) (members old v) (marked_in old v (in_below new v h) t))
          (λ e. yes_or_left (eqb v x) (members old v) e)
          (or_yes (marked old 0 v) (eqb v x) (subst T (is v (in_below new v h)) (in_marked new v h)))

      from : (v : ℕ) → T (eqb v x || members old v) → In new v
      from v h =
          ⊎_elim
          (λ e.
          let below = subst (λ (y : ℕ). y < 256) (sym (eqb→eq v x e)) j.event in
          marked_in new v below (subst T (sym (is v below)) (yes_or_right (marked old 0 v) (eqb v x) e)))
          (λ t.
          let below = in_below old v t in
          marked_in new v below (subst T (sym (is v below)) (yes_or_left (marked old 0 v) (eqb v x) (in_marked old v t))))
          (or_yes (eqb v x) (members old v) h)

  -- a member is the new one or an old one
  pub gain_cases : {X : Type 0} (v : ℕ) → In new v → (v ≡ x → X) → (In old v → X) → X
  gain_cases v h here there =
      ⊎_elim
      (λ e. here (eqb→eq v x e))
      there
      (or_yes (eqb v x) (members old v) (subst (λ (S : Set). T (S v)) gained h))

  pub gain_keeps : (v : ℕ) → In old v → In new v
  gain_keeps v h = subst (λ (S : Set). T (S v)) (sym gained) (yes_or_right (eqb v x) (members old v) h)

  pub gain_has : In new x
  gain_has = subst (λ (S : Set). T (S x)) (sym gained) (yes_or_left (eqb x x) (members old x) (eqb_refl x))
