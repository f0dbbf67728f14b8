-- The words of two rows: which numbers their bits show, and what a search in them tells.
use Prim.Native.Nat.{ℕ, ◌+◌, ◌-◌, ◌*◌, ◌/◌, ◌%◌, ◌^◌, ◌<◌}
use native.Mathlib.Omega.{arith}
use mathlib.Core.Bool.{not, ◌&&◌}
use mathlib.Core.List.{List}
use Rattle.std.specs.Prelude.{Option, Some, None}
use mathlib.Core.Path.{◌≡◌, sym, ap₂, subst, ◌∙◌}
use lib.Bits.{bit_and}
use lib.Dec.{T, T_not, not_T}
use lib.ListN.{get_or}
use mir.Facts.{and_yes, yes_and}
use Rattle.marks.specs.Marks.{bit, bit_none, marked}
use Rattle.last_mark.specs.Found.{Both, Only, Met, ShownAt, Shown, Tells}
use Rattle.marks.proofs.Bits.{bit_and_lem, bit_and_not}
use Rattle.marks.proofs.Rows.{word_mark}

-- the bits of x show which numbers from k * 32 on have the property P
pub record Shows (P : ℕ → Type 0) (k x : ℕ) : Type 0 where
  pub has : (t : ℕ) → t < 32 → T (bit x t) → P (k * 32 + t)
  pub shown : (t : ℕ) → t < 32 → P (k * 32 + t) → T (bit x t)

module _ (a : List ℕ) (i : ℕ) (b : List ℕ) (j k : ℕ) (h : k < 8) where
  pub shows_both : Shows (Both a i b j) k (bit_and (get_or a (i * 8 + k) 0) (get_or b (j * 8 + k) 0))
  shows_both =
      record {
        has = λ t l s.
            let both = and_yes (marked a i (k * 32 + t)) (marked b j (k * 32 + t)) (subst T (is t l) s) in
            record { below = omega arith; first = both.0; second = both.1 };
        shown = λ t l p. subst T (sym (is t l)) (yes_and (marked a i (k * 32 + t)) (marked b j (k * 32 + t)) p.first p.second);
      }
    where
      is : (t : ℕ) → t < 32 → bit (bit_and (get_or a (i * 8 + k) 0) (get_or b (j * 8 + k) 0)) t ≡ (marked a i (k * 32 + t) && marked b j (k * 32 + t))
      is t l = bit_and_lem (get_or a (i * 8 + k) 0) (get_or b (j * 8 + k) 0) t ∙ ap₂ ◌&&◌ (word_mark a i k t l) (word_mark b j k t l)

  pub shows_only : get_or b (j * 8 + k) 0 < 2 ^ 32 → Shows (Only a i b j) k (bit_and (get_or a (i * 8 + k) 0) ((2 ^ 32 - 1) - get_or b (j * 8 + k) 0))
  shows_only fits =
      record {
        has = λ t l s.
            let both = and_yes (marked a i (k * 32 + t)) (not (marked b j (k * 32 + t))) (subst T (is t l) s) in
            record { below = omega arith; first = both.0; second = T_not (marked b j (k * 32 + t)) both.1 };
        shown = λ t l p.
            subst T (sym (is t l)) (yes_and (marked a i (k * 32 + t)) (not (marked b j (k * 32 + t))) p.first (not_T (marked b j (k * 32 + t)) p.second));
      }
    where
      is : (t : ℕ) → t < 32
          → bit (bit_and (get_or a (i * 8 + k) 0) ((2 ^ 32 - 1) - get_or b (j * 8 + k) 0)) t ≡ (marked a i (k * 32 + t) && not (marked b j (k * 32 + t)))
      is t l = bit_and_not (get_or a (i * 8 + k) 0) (get_or b (j * 8 + k) 0) t fits l ∙ ap₂ (λ x y. x && not y) (word_mark a i k t l) (word_mark b j k t l)

told : (P : ℕ → Type 0) (word : ℕ → ℕ → Type 0) → ((v : ℕ) → P v → v < 256) → ((k x : ℕ) → k < 8 → word k x → Shows P k x)
    → (o : Option ℕ) → ShownAt word o → Tells P o
told P word below shows (Some v) (k, x, r, h, met, set, at) = subst P (sym at) ((shows k x h met).has r set.within set.set)
told P word below shows None none = λ v p.
    let k = v / 32 in
    let t = v % 32 in
    let l : v < 256 = below v p in
    let is : v ≡ k * 32 + t = omega arith in
    let h : k < 8 = omega arith in
    let low : t < 32 = omega arith in
    subst T (bit_none t) ((shows k 0 h (none k h)).shown t low (subst P is p))

-- What a search in words finds: in those of the marks of both rows, and in those of the marks of the first only.
module _ {meet : ℕ → ℕ → ℕ → Type 0} {a : List ℕ} {i : ℕ} {b : List ℕ} {j : ℕ} {o : Option ℕ} (s : Shown meet a i b j o) where
  pub told_both : ((x y z : ℕ) → meet x y z → z ≡ bit_and x y) → Tells (Both a i b j) o
  told_both is =
      told (Both a i b j) (Met meet a i b j) (λ v p. p.below) (λ k x h m. rw (is _ _ _ m) (shows_both a i b j k h)) o s.at

  pub told_only : ((q : ℕ) → get_or b q 0 < 2 ^ 32) → ((x y z : ℕ) → meet x y z → z ≡ bit_and x ((2 ^ 32 - 1) - y)) → Tells (Only a i b j) o
  told_only fits is =
      told (Only a i b j) (Met meet a i b j) (λ v p. p.below) (λ k x h m. rw (is _ _ _ m) (shows_only a i b j k h (fits _))) o s.at
