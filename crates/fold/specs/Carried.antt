-- Tokens carried from one event to a later one, pair by pair from its end back to its start.
use Rattle.std.specs.Prelude.{ℕ, ◌+◌, ◌≤◌, ◌<◌, Bool, true, false, not, ◌⊎◌, ◌≡◌, refl, T, eqb}
use Rattle.std.proofs.Common.{arith, inl, inr, ⊎_elim, sym, ap, subst, ◌∙◌, eqb→eq, T_not}
use Rattle.std.proofs.Math.Facts.{yes_eqb}
use Rattle.finite.specs.Bounded.{decide}
use Rattle.finite.specs.Sum.{on, sum, on_yes, on_no, on_le, on_swap, at_end_more, sum_row_more, sum_column_more}
use Rattle.plan.specs.Net.{Plan}
use Rattle.plan.specs.Order.{Before, pair, chain, skeleton, Sound}
use Rattle.plan.specs.Flow.{Flow}
use Rattle.fold.specs.Folded.{entering, leaving, Folded, folded_ext}

-- The second row has k tokens more on a chain of skeleton pairs from one event to another. Pairs that end at its start or before it are as
-- they were, and no pair is on the chain twice.
pub record Carried (P : Plan) (x z : Flow) (from to k : ℕ) : Type 0 where
  pub balance : (v : ℕ) → entering P z v + leaving P x v + on (eqb from v) k ≡ leaving P z v + entering P x v + on (eqb to v) k
  pub arrives : (v : ℕ) → entering P x v + on (eqb to v) k ≤ entering P z v + on (eqb from v) (on (eqb to v) k)
  pub bare : (i : ℕ) → i < P.pairs → T (not (skeleton P i)) → z i ≡ x i
  pub fresh : (i : ℕ) → i < P.pairs → (P.later i ≡ from) ⊎ Before P (P.later i) from → z i ≡ x i
  pub most : (i : ℕ) → i < P.pairs → z i ≤ x i + k

-- a chain of no pairs
pub carried_none : (P : Plan) (x : Flow) (w k : ℕ) → Carried P x x w w k
carried_none P x w k =
    record {
      balance = λ v. omega arith;
      arrives = λ v. back v (eqb w v);
      bare = λ i l b. refl;
      fresh = λ i l b. refl;
      most = λ i l. omega arith;
    }
  where
    back : (v : ℕ) (b : Bool) → entering P x v + on b k ≤ entering P x v + on b (on b k)
    back v true = omega arith
    back v false = omega arith

-- one skeleton pair more, at the start of the chain
module _ (P : Plan) (S : Sound P) (x z z' : Flow) (cur to k i : ℕ) (l : i < P.pairs) (bare : T (skeleton P i)) (ends : P.later i ≡ cur)
    (more : (j : ℕ) → j < P.pairs → z' j ≡ z j + on (eqb i j) k) (c : Carried P x z cur to k) where
  back : Before P (P.earlier i) cur
  back = subst (λ (y : ℕ). Before P (P.earlier i) y) ends (pair i l)

  other : (j : ℕ) → j < P.pairs → (i ≡ j → ⊥) → z' j ≡ z j
  other j h ne = omega (arith, more j h, on_no (eqb i j) k (λ t. ne (eqb→eq i j t)))

  here : (j : ℕ) → j < P.pairs → i ≡ j → z' j ≡ x j + k
  here j h e =
      omega (arith, more j h, on_le (eqb i j) k, on_yes (eqb i j) k (yes_eqb e), c.fresh j h (inl (subst (λ (n : ℕ). P.later n ≡ cur) e ends)))

  pub carried_more : Carried P x z' (P.earlier i) to k
  carried_more =
      record {
        balance = λ a. omega (arith, c.balance a, enters a, leaves a);
        arrives = λ a. omega (arith, c.arrives a, enters a, on_swap (eqb cur a) (eqb to a) k, on_le (eqb to a) (on (eqb cur a) k));
        bare = λ j h b. other j h (λ e. T_not (skeleton P j) b (subst (λ (n : ℕ). T (skeleton P n)) e bare)) ∙ c.bare j h b;
        fresh = λ j h b.
            let up : Before P (P.later j) cur = ⊎_elim (λ e. subst (λ (y : ℕ). Before P y cur) (sym e) back) (λ d. chain d back) b in
            other j h (λ e. S.acyclic cur (subst (λ (y : ℕ). Before P y cur) (ap P.later (sym e) ∙ ends) up)) ∙ c.fresh j h (inr up);
        most = λ j h.
            ⊎_elim
            (λ e. omega (arith, here j h (eqb→eq i j e)))
            (λ e. omega (arith, c.most j h, other j h (λ s. T_not (eqb i j) e (yes_eqb s))))
            (decide (eqb i j));
      }
    where
      enters : (a : ℕ) → entering P z' a ≡ entering P z a + on (eqb cur a) k
      enters a = at_end_more P.pairs P.later z z' i k l more a ∙ ap (λ (y : ℕ). entering P z a + on (eqb y a) k) ends

      leaves : (a : ℕ) → leaving P z' a ≡ leaving P z a + on (eqb (P.earlier i) a) k
      leaves a = at_end_more P.pairs P.earlier z z' i k l more a

-- The whole chain folds k tokens more from its start to its end.
pub carried_folds : (P : Plan) (y y' : ℕ → ℕ → ℕ) (x z : Flow) (u w k : ℕ) → u < P.events → w < P.events → (u ≡ w → ⊥)
    → ((a b : ℕ) → a < P.events → b < P.events → y' a b ≡ y a b + on (eqb u a) (on (eqb w b) k))
    → Folded P y x → Carried P x z u w k → Folded P y' z
carried_folds P y y' x z u w k lu lw apart more f c =
    folded_ext
    P
    (λ a b. y a b + on (eqb u a) (on (eqb w b) k))
    y'
    z
    (record {
      balance = λ v l. omega (arith, f.balance v l, c.balance v, sum_row_more P.events u w k v (y v) lw, column v);
      received = λ v l. omega (arith, f.received v l, c.arrives v, column v, none v);
      bare = λ i l b. c.bare i l b ∙ f.bare i l b;
    })
    (λ a b ha hb. sym (more a b ha hb))
  where
    column : (v : ℕ) → sum P.events (λ a. y a v + on (eqb u a) (on (eqb w v) k)) ≡ sum P.events (λ a. y a v) + on (eqb w v) k
    column v = sum_column_more P.events u w k v (λ a. y a v) lu

    none : (v : ℕ) → on (eqb u v) (on (eqb w v) k) ≡ 0
    none v =
        ⊎_elim
        (λ e. on_swap (eqb u v) (eqb w v) k ∙ on_no (eqb w v) (on (eqb u v) k) (λ d. apart (eqb→eq u v e ∙ sym (eqb→eq w v d))))
        (λ e. on_no (eqb u v) (on (eqb w v) k) (T_not (eqb u v) e))
        (decide (eqb u v))
