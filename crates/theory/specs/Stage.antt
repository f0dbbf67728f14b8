-- Stages: a set D of events and a larger set U with every arc into U starting in D. Sums over a stage add up over unions and intersections.
-- A done set with its front is a stage; the duality between done sets and flows is about stages.
use Rattle.std.specs.Prelude.{ℕ, ◌+◌, ◌<◌, Bool, true, false, ◌&&◌, ◌||◌, ◌≡◌, refl, T, eqb}
use Rattle.std.proofs.Common.{add_comm, arith, ⊎_elim, sym, ap, ◌∙◌}
use Rattle.std.proofs.Math.Facts.{and_yes, yes_and, or_yes}
use Rattle.finite.specs.Bounded.{all, all_yes, yes_all, ◌⇒◌, imp_yes, yes_imp, yes_or_left, yes_or_right}
use Rattle.finite.specs.Subset.{Set, Within}
use Rattle.finite.specs.Sum.{on, sum, over, sum_ext, sum_add, sum_one, on_swap}

abbrev pub both : Set → Set → Set
both D E v = D v && E v

abbrev pub either : Set → Set → Set
either D E v = D v || E v

-- The arcs are the numbers i below m that pass the test `used`, each from a i to b i.
pub record Stage (m : ℕ) (a b : ℕ → ℕ) (used D U : Set) : Type 0 where
  pub inside : (v : ℕ) → T (D v) → T (U v)
  pub into : (i : ℕ) → i < m → T (used i) → T (U (b i)) → T (D (a i))

-- The test of it, for sets of numbers below n.
pub stage : ℕ → ℕ → (ℕ → ℕ) → (ℕ → ℕ) → Set → Set → Set → Bool
stage n m a b used D U = all n (λ v. D v ⇒ U v) && all m (λ i. (used i && U (b i)) ⇒ D (a i))

-- done, top and outside: the number of an event that is in D, in U only, or in neither
abbrev pub pick : Bool → Bool → ℕ → ℕ → ℕ
pick true u x y = x
pick false true x y = y
pick false false x y = 0

unfoldable pub picked : ℕ → Set → Set → (ℕ → ℕ) → (ℕ → ℕ) → ℕ
picked n D U f g = sum n (λ v. pick (D v) (U v) (f v) (g v))

module _ (n m : ℕ) (a b : ℕ → ℕ) (used D U : Set) where
  pub yes_stage : Stage m a b used D U → T (stage n m a b used D U)
  unfolding stage
  yes_stage s =
      yes_and
      (all n (λ v. D v ⇒ U v))
      (all m (λ i. (used i && U (b i)) ⇒ D (a i)))
      (yes_all n _ (λ v l. yes_imp (D v) (U v) (s.inside v)))
      (yes_all m _ (λ i l. yes_imp (used i && U (b i)) (D (a i)) (λ t. s.into i l (and_yes (used i) (U (b i)) t).0 (and_yes (used i) (U (b i)) t).1)))

  pub stage_yes : Within n D → T (stage n m a b used D U) → Stage m a b used D U
  unfolding stage
  stage_yes w t =
      let h = and_yes (all n (λ v. D v ⇒ U v)) (all m (λ i. (used i && U (b i)) ⇒ D (a i))) t in
      record {
        inside = λ v d. imp_yes (D v) (U v) (all_yes n _ h.0 v (w.below v d)) d;
        into = λ i l used-i u. imp_yes (used i && U (b i)) (D (a i)) (all_yes m _ h.1 i l) (yes_and (used i) (U (b i)) used-i u);
      }

pick_modular : (d u e w : Bool) (x y : ℕ) → (T d → T u) → (T e → T w) → pick d u x y + pick e w x y ≡ pick (d && e) (u && w) x y + pick (d || e) (u || w) x y
pick_modular true true true true x y h k = refl
pick_modular true true false true x y h k = add_comm x y
pick_modular true true false false x y h k = add_comm x 0
pick_modular true true true false x y h k = absurd (k tt)
pick_modular true false e w x y h k = absurd (h tt)
pick_modular false u true false x y h k = absurd (k tt)
pick_modular false true true true x y h k = refl
pick_modular false true false true x y h k = refl
pick_modular false true false false x y h k = add_comm y 0
pick_modular false false true true x y h k = refl
pick_modular false false false true x y h k = refl
pick_modular false false false false x y h k = refl

pub picked_modular : (n : ℕ) (D U E W : Set) (f g : ℕ → ℕ) → ((v : ℕ) → T (D v) → T (U v)) → ((v : ℕ) → T (E v) → T (W v))
    → picked n D U f g + picked n E W f g ≡ picked n (both D E) (both U W) f g + picked n (either D E) (either U W) f g
unfolding picked
picked_modular n D U E W f g h k =
    sym (sum_add n (λ v. pick (D v) (U v) (f v) (g v)) (λ v. pick (E v) (W v) (f v) (g v)))
    ∙ sum_ext n _ _ (λ v l. pick_modular (D v) (U v) (E v) (W v) (f v) (g v) (h v) (k v))
    ∙ sum_add n (λ v. pick (D v && E v) (U v && W v) (f v) (g v)) (λ v. pick (D v || E v) (U v || W v) (f v) (g v))

-- k more at one event, where it is done
pick_done : (d u : Bool) (x y z : ℕ) → pick d u (x + z) y ≡ pick d u x y + on d z
pick_done true u x y z = refl
pick_done false true x y z = omega arith
pick_done false false x y z = refl

-- k more at one event, where it is done or at the top
pick_top : (d u : Bool) (x y z : ℕ) → (T d → T u) → pick d u (x + z) (y + z) ≡ pick d u x y + on u z
pick_top true true x y z h = refl
pick_top true false x y z h = absurd (h tt)
pick_top false true x y z h = refl
pick_top false false x y z h = refl

pub picked_done : (n : ℕ) (D U : Set) (f g : ℕ → ℕ) (w k : ℕ) → w < n → picked n D U (λ v. f v + on (eqb w v) k) g ≡ picked n D U f g + on (D w) k
unfolding picked
picked_done n D U f g w k l =
    sum_ext n _ (λ v. pick (D v) (U v) (f v) (g v) + on (eqb w v) (on (D v) k)) each
    ∙ sum_add n (λ v. pick (D v) (U v) (f v) (g v)) (λ v. on (eqb w v) (on (D v) k))
    ∙ ap (λ (z : ℕ). picked n D U f g + z) (sum_one n w (λ v. on (D v) k) l)
  where
    each : (v : ℕ) → v < n → pick (D v) (U v) (f v + on (eqb w v) k) (g v) ≡ pick (D v) (U v) (f v) (g v) + on (eqb w v) (on (D v) k)
    each v _ = pick_done (D v) (U v) (f v) (g v) (on (eqb w v) k) ∙ ap (λ (z : ℕ). pick (D v) (U v) (f v) (g v) + z) (on_swap (D v) (eqb w v) k)

pub picked_top : (n : ℕ) (D U : Set) (f g : ℕ → ℕ) (w k : ℕ) → w < n → ((v : ℕ) → T (D v) → T (U v))
    → picked n D U (λ v. f v + on (eqb w v) k) (λ v. g v + on (eqb w v) k) ≡ picked n D U f g + on (U w) k
unfolding picked
picked_top n D U f g w k l h =
    sum_ext n _ (λ v. pick (D v) (U v) (f v) (g v) + on (eqb w v) (on (U v) k)) each
    ∙ sum_add n (λ v. pick (D v) (U v) (f v) (g v)) (λ v. on (eqb w v) (on (U v) k))
    ∙ ap (λ (z : ℕ). picked n D U f g + z) (sum_one n w (λ v. on (U v) k) l)
  where
    each : (v : ℕ) → v < n → pick (D v) (U v) (f v + on (eqb w v) k) (g v + on (eqb w v) k) ≡ pick (D v) (U v) (f v) (g v) + on (eqb w v) (on (U v) k)
    each v _ = pick_top (D v) (U v) (f v) (g v) (on (eqb w v) k) (h v) ∙ ap (λ (z : ℕ). pick (D v) (U v) (f v) (g v) + z) (on_swap (U v) (eqb w v) k)

-- what a stage takes, where done and top events take alike
pub picked_same : (n : ℕ) (D U : Set) (f : ℕ → ℕ) → ((v : ℕ) → T (D v) → T (U v)) → picked n D U f f ≡ over n U f
unfolding picked over
picked_same n D U f h = sum_ext n _ _ (λ v l. go (D v) (U v) (f v) (h v))
  where
    go : (d u : Bool) (x : ℕ) → (T d → T u) → pick d u x x ≡ on u x
    go true true x k = refl
    go true false x k = absurd (k tt)
    go false true x k = refl
    go false false x k = refl

-- what its done events give
pub picked_only : (n : ℕ) (D U : Set) (f : ℕ → ℕ) → picked n D U f (λ v. 0) ≡ over n D f
unfolding picked over
picked_only n D U f = sum_ext n _ _ (λ v l. go (D v) (U v) (f v))
  where
    go : (d u : Bool) (x : ℕ) → pick d u x 0 ≡ on d x
    go true u x = refl
    go false true x = refl
    go false false x = refl

module _ (m : ℕ) (a b : ℕ → ℕ) (used D U E W : Set) (s : Stage m a b used D U) (r : Stage m a b used E W) where
  pub stage_both : Stage m a b used (both D E) (both U W)
  stage_both =
      record {
        inside = λ v h. yes_and (U v) (W v) (s.inside v (and_yes (D v) (E v) h).0) (r.inside v (and_yes (D v) (E v) h).1);
        into = λ i l g h. yes_and (D (a i)) (E (a i)) (s.into i l g (and_yes (U (b i)) (W (b i)) h).0) (r.into i l g (and_yes (U (b i)) (W (b i)) h).1);
      }

  pub stage_either : Stage m a b used (either D E) (either U W)
  stage_either =
      record {
        inside = λ v h. ⊎_elim (λ k. yes_or_left (U v) (W v) (s.inside v k)) (λ k. yes_or_right (U v) (W v) (r.inside v k)) (or_yes (D v) (E v) h);
        into = λ i l g h. ⊎_elim (λ k. yes_or_left (D (a i)) (E (a i)) (s.into i l g k)) (λ k. yes_or_right (D (a i)) (E (a i)) (r.into i l g k)) (or_yes (U (b i)) (W (b i)) h);
      }

-- sets of numbers below n
pub within_both : (n : ℕ) (D E : Set) → Within n D → Within n (both D E)
within_both n D E w = record { below = λ v h. w.below v (and_yes (D v) (E v) h).0 }

pub within_either : (n : ℕ) (D E : Set) → Within n D → Within n E → Within n (either D E)
within_either n D E w z = record { below = λ v h. ⊎_elim (w.below v) (z.below v) (or_yes (D v) (E v) h) }
