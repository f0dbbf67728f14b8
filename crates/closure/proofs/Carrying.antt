-- One row joined into another, and then its event marked there.
use Prim.Native.Nat.{ℕ, ◌<◌}
use mathlib.Core.Bool.{◌&&◌}
use mathlib.Core.List.{List}
use mathlib.Core.Logic.{◌⊎◌, inl, inr, ⊎_elim}
use mathlib.Core.Path.{◌≡◌, sym, subst}
use lib.Dec.{T, eqb, eqb→eq, eqb_refl}
use mir.Facts.{and_yes, yes_and, or_yes}
use Rattle.closure.specs.Carried.{RowCarried}
use Rattle.finite.specs.Bounded.{yes_or_left, yes_or_right}
use Rattle.ids.specs.Limits.{most_events}
use Rattle.marks.specs.Marks.{marked, MarkAdded, RowJoined}

module _ {old mid new : List ℕ} {from into : ℕ} (joined : RowJoined old mid from into) (added : MarkAdded mid new into from) (few : from < most_events) where
  mid_new : (v u : ℕ) → u < most_events → T (marked mid v u) → T (marked new v u)
  mid_new v u l t = subst T (sym (added.marks v u l)) (yes_or_left (marked mid v u) (eqb v into && eqb u from) t)

  old_mid : (v u : ℕ) → u < most_events → T (marked old v u) → T (marked mid v u)
  old_mid v u l t = subst T (sym (joined.marks v u l)) (yes_or_left (marked old v u) (eqb v into && marked old from u) t)

  pub row_carried : RowCarried old new from into
  row_carried =
      record {
        stays = λ v u l t. mid_new v u l (old_mid v u l t);
        joins = λ u l t.
            mid_new
            into
            u
            l
            (subst T (sym (joined.marks into u l)) (yes_or_right (marked old into u) _ (yes_and (eqb into into) (marked old from u) (eqb_refl into) t)));
        itself =
            subst
            T
            (sym (added.marks into from few))
            (yes_or_right (marked mid into from) _ (yes_and (eqb into into) (eqb from from) (eqb_refl into) (eqb_refl from)));
        only = λ v u l t.
            ⊎_elim
            (λ in-mid. ⊎_elim inl (by_join v u) (or_yes (marked old v u) (eqb v into && marked old from u) (subst T (joined.marks v u l) in-mid)))
            (by_mark v u)
            (or_yes (marked mid v u) (eqb v into && eqb u from) (subst T (added.marks v u l) t));
      }
    where
      Told : ℕ → ℕ → Type 0
      Told v u = T (marked old v u) ⊎ ((v ≡ into) × (T (marked old from u) ⊎ (u ≡ from)))

      by_join : (v u : ℕ) → T (eqb v into && marked old from u) → Told v u
      by_join v u t = let both = and_yes (eqb v into) (marked old from u) t in inr (eqb→eq v into both.0, inl both.1)

      by_mark : (v u : ℕ) → T (eqb v into && eqb u from) → Told v u
      by_mark v u t = let both = and_yes (eqb v into) (eqb u from) t in inr (eqb→eq v into both.0, inr (eqb→eq u from both.1))
