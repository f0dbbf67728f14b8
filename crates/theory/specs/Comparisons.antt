-- What the numbers at a place depend on: what each event takes and gives there, the order and the opening count. How they change with the last two.
use Rattle.std.specs.Prelude.{ℕ, ◌-◌, ◌≤◌, ◌<◌, Bool, true, false, cond, ◌≡◌, T, ◌+ℤ◌, ◌-ℤ◌}
use Rattle.std.proofs.Common.{arith, ⊎_elim, sym, ◌∙◌}
use Rattle.std.proofs.Math.Path.{refl, ap, ap₂, subst}
use Rattle.std.proofs.Math.Dec.{eqb, eqb_refl, ltb}
use Rattle.std.proofs.Math.IntN.{pos}
use Rattle.std.proofs.Math.Facts.{or_yes}
use Rattle.finite.specs.Bounded.{same, yes_or_left, yes_or_right}
use Rattle.finite.specs.Subset.{Set, set_ext}
use Rattle.finite.specs.Sum.{on, over, on_yes, on_mono, sum_mono, sum_ext}
use Rattle.plan.specs.Net.{Net, Plan, Labelled, taken_by, given_by}
use Rattle.plan.specs.Order.{Before}
use Rattle.plan.specs.Prefix.{prefix, front, tokens, lack, missing, need, least_opening, full, end_count}
use Rattle.plan.specs.Compare.{with_more, opens_with, MoreOrder, SameAt, SameWeights, SamePlace}
use Rattle.theory.specs.Least.{taken, given, least_covers, least_is_least}
use Rattle.theory.specs.Missing.{missing_opening}
use Rattle.theory.specs.Prefixes.{prefix_closed, closed_prefix, front_yes, yes_front, reached}

-- ---- the least opening count doesn't know the opening count

module _ (N : Net) (P : Plan) (p k : ℕ) where
  pub least_more : least_opening (with_more N p k) P p ≡ least_opening N P p
  unfolding least_opening need
  least_more = refl

  pub least_opens : least_opening (opens_with N p k) P p ≡ least_opening N P p
  unfolding least_opening need
  least_opens = refl

  -- k more tokens opening lower the missing count by k, at most to 0.
  pub missing_more : missing (with_more N p k) P p ≡ missing N P p - k
  missing_more =
      omega (arith, missing_opening N P p, missing_opening (with_more N p k) P p, least_more, on_yes (eqb p p) k (eqb_refl p))

  -- With k tokens opening it is what the least opening count is above k.
  pub missing_opens : missing (opens_with N p k) P p ≡ least_opening N P p - k
  missing_opens =
      missing_opening (opens_with N p k) P p ∙ ap₂ ◌-◌ least_opens (taken_branch (eqb p p) k (N.opening p) (eqb_refl p))
    where
      taken_branch : (b : Bool) (x y : ℕ) → T b → cond b x y ≡ x
      taken_branch true x y t = refl
      taken_branch false x y t = absurd t

-- ---- the same weights, and more order

module _ (N : Net) (P : Plan) (p : ℕ) (M : Net) (Q : Plan) (q : ℕ) (s : SameWeights N P p M Q q) where
  pub turned : SameWeights M Q q N P p
  turned =
      record {
        events = sym s.events;
        takes = λ v l. sym (s.takes v (to_first l));
        gives = λ v l. sym (s.gives v (to_first l));
      }
    where
      to_first : {v : ℕ} → v < Q.events → v < P.events
      to_first {v} l = subst (λ (n : ℕ). v < n) (sym s.events) l

  given_same : (D : Set) → given N P p D ≡ given M Q q D
  unfolding over
  given_same D =
      sum_ext P.events _ _ (λ v l. ap (on (D v)) (s.gives v l)) ∙ ap (λ (n : ℕ). over n D (given_by M Q q)) s.events

  taken_same : (D : Set) → over P.events D (taken_by N P p) ≡ over Q.events D (taken_by M Q q)
  unfolding over
  taken_same D =
      sum_ext P.events _ _ (λ v l. ap (on (D v)) (s.takes v l)) ∙ ap (λ (n : ℕ). over n D (taken_by M Q q)) s.events

  module _ (order : (u v : ℕ) → Before P u v → Before Q u v) (D : Set) where
    to_second : {v : ℕ} → v < P.events → v < Q.events
    to_second {v} l = subst (λ (n : ℕ). v < n) s.events l

    first_prefix : T (prefix Q D) → T (prefix P D)
    first_prefix t =
        closed_prefix P D (record { closed = λ u v lu lv b d. (prefix_closed Q D t).closed u v (to_second lu) (to_second lv) (order u v b) d })

    first_front : (v : ℕ) → T (front Q D v) → T (front P D v)
    first_front v t =
        let f = front_yes Q D v t in
        yes_front P D v (record { outside = f.outside; ready = λ u l b. f.ready u (to_second l) (order u v b) })

    first_reached : (v : ℕ) → T (reached Q D v) → T (reached P D v)
    first_reached v t =
        ⊎_elim
        (λ d. yes_or_left (D v) (front P D v) d)
        (λ f. yes_or_right (D v) (front P D v) (first_front v f))
        (or_yes (D v) (front Q D v) t)

    first_takes : taken M Q q D ≤ taken N P p D
    unfolding taken over
    first_takes =
        subst
        (λ (n : ℕ). over n (reached Q D) (taken_by M Q q) ≤ taken N P p D)
        s.events
        (sum_mono P.events _ _ at_event)
      where
        at_event : (v : ℕ) → v < P.events → on (reached Q D v) (taken_by M Q q v) ≤ on (reached P D v) (taken_by N P p v)
        at_event v l =
            subst
            (λ (t : ℕ). on (reached Q D v) t ≤ on (reached P D v) (taken_by N P p v))
            (s.takes v l)
            (on_mono (reached Q D v) (reached P D v) (taken_by N P p v) (first_reached v))

  -- More order never raises the least opening count.
  pub least_order : ((u v : ℕ) → Before P u v → Before Q u v) → least_opening M Q q ≤ least_opening N P p
  least_order order =
      least_is_least
      M
      Q
      q
      (least_opening N P p)
      (λ D w t.
      omega (arith, least_covers N P p D (record { below = λ v d. subst (λ (n : ℕ). v < n) (sym s.events) (w.below v d) }) (first_prefix order D t), first_takes order D, given_same D))

-- More order never raises it, nor the missing count.
module _ (N : Net) (P Q : Plan) (p : ℕ) (m : MoreOrder P Q) where
  pub weights_ordered : SameWeights N P p N Q p
  weights_ordered =
      record { events = m.events; takes = λ v l. ap (λ (t : ℕ). N.takes t p) (m.labels v l); gives = λ v l. ap (λ (t : ℕ). N.gives t p) (m.labels v l) }

-- ---- the same weights and order

module _ (N : Net) (P : Plan) (p : ℕ) (M : Net) (Q : Plan) (q : ℕ) (s : SamePlace N P p M Q q) where
  back : SameWeights M Q q N P p
  back = turned N P p M Q q s.weights

  pub prefix_alike : (D : Set) → prefix P D ≡ prefix Q D
  prefix_alike D =
      same
      (prefix P D)
      (prefix Q D)
      (first_prefix M Q q N P p back (λ u v. (s.order u v).1) D)
      (first_prefix N P p M Q q s.weights (λ u v. (s.order u v).0) D)

  front_alike : (D : Set) → front P D ≡ front Q D
  front_alike D =
      set_ext
      (front P D)
      (front Q D)
      (first_front M Q q N P p back (λ u v. (s.order u v).1) D)
      (first_front N P p M Q q s.weights (λ u v. (s.order u v).0) D)

  pub tokens_alike : (D : Set) → tokens N P p D ≡ tokens M Q q D
  unfolding tokens
  tokens_alike D =
      ap₂ (λ x y. x -ℤ pos y) (ap₂ (λ x y. pos x +ℤ pos y) s.opening (given_same N P p M Q q s.weights D)) (taken_same N P p M Q q s.weights D)

  pub lack_alike : (D : Set) → lack N P p D ≡ lack M Q q D
  unfolding lack
  lack_alike D =
      ap₂ (λ x z. pos x -ℤ z) (ap (λ (F : Set). over P.events F (taken_by N P p)) (front_alike D) ∙ taken_same N P p M Q q s.weights (front Q D)) (tokens_alike D)

  pub end_alike : end_count N P p ≡ end_count M Q q
  unfolding end_count
  end_alike = ap (λ (n : ℕ). tokens N P p (λ v. ltb v n)) s.weights.events ∙ tokens_alike (full Q)

-- Other places' numbers don't matter.
module _ (N M : Net) (P : Plan) (p : ℕ) (lab : Labelled N P) (s : SameAt p N M) where
  pub place_same : SamePlace N P p M P p
  place_same =
      record {
        weights = record { events = refl; takes = λ v l. s.takes (P.label v) (lab.named v l); gives = λ v l. s.gives (P.label v) (lab.named v l) };
        order = λ u v. (λ b. b, λ b. b);
        opening = s.opening;
      }
