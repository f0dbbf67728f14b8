-- The free count depends on "before" alone and never rises with more order; a chain's, and that of events without order. Document 02, A6.
use Rattle.std.specs.Prelude.{ℕ, zero, suc, ◌-◌, ◌*◌, ◌/◌, ◌≤◌, ◌<◌, ◌⊎◌, ◌↔◌, ◌≡◌, refl, T, ltb}
use Rattle.std.proofs.Common.{le_antisymm, le_of_lt, not-suc-le-zero, arith, sym, subst, T_not, ltb→lt}
use Rattle.std.proofs.Math.Logic.{inl, inr, ⊎_elim}
use Rattle.std.proofs.Math.Dec.{nltb→le}
use Rattle.finite.specs.Bounded.{below_suc, decide, same}
use Rattle.finite.specs.Count.{count}
use Rattle.finite.specs.Pairs.{count_pairs}
use Rattle.finite.proofs.Pairs.{pairs_mono, pairs_none, none_pairs, pairs_all, pairs_twice}
use Rattle.finite.specs.Sum.{sum}
use Rattle.plan.specs.Net.{Plan}
use Rattle.plan.specs.Order.{Before, pair, chain, before, Independent, independent, free_count, IsChain}
use Rattle.plan.proofs.Closure.{before_test, independent_test}
use Rattle.plan.specs.Compare.{ImpliedPairs}
use Rattle.plan.specs.OnlyPairs.{before_among}

-- Of two independent events either may come first, so that counted both ways round each two are counted twice.
pub free_twice : (P : Plan) → sum P.events (λ v. count P.events (λ u. independent P u v)) ≡ 2 * free_count P
unfolding free_count
free_twice P =
    pairs_twice (independent P) P.events (λ v t. ((independent_test P v v).0 t).different refl) (λ u v.
    same (independent P u v) (independent P v u) (turned u v) (turned v u))
  where
    turned : (u v : ℕ) → T (independent P u v) → T (independent P v u)
    turned u v t =
        let i = (independent_test P u v).0 t in
        (independent_test P v u).1
        (record {
          different = λ e. i.different (sym e);
          not_before = i.not_after;
          not_after = i.not_before;
        })

-- More order never raises it.
pub free_order : (P Q : Plan) → P.events ≡ Q.events → ((u v : ℕ) → Before P u v → Before Q u v) → free_count Q ≤ free_count P
unfolding free_count
free_order P Q events order =
    subst
    (λ (n : ℕ). count_pairs n (independent Q) ≤ free_count P)
    events
    (pairs_mono P.events (independent Q) (independent P) (λ u v k l t. (independent_test P u v).1 (fewer u v ((independent_test Q u v).0 t))))
  where
    fewer : (u v : ℕ) → Independent Q u v → Independent P u v
    fewer u v i =
        record {
          different = i.different;
          not_before = λ b. i.not_before (order u v b);
          not_after = λ b. i.not_after (order v u b);
        }

-- It depends on "before" alone.
pub free_same : (P Q : Plan) → P.events ≡ Q.events → ((u v : ℕ) → Before P u v ↔ Before Q u v) → free_count Q ≡ free_count P
free_same P Q events order =
    le_antisymm (free_order P Q events (λ u v. (order u v).0)) (free_order Q P (sym events) (λ u v. (order u v).1))

-- Pairs that the order implies leave "before" as it is.
module _ (P Q : Plan) (more : ImpliedPairs P Q) where
  second_before : {u v : ℕ} → Before Q u v → Before P u v
  second_before (pair j l) = more.implied j l
  second_before (chain b c) = chain (second_before b) (second_before c)

  pub implied_before : (u v : ℕ) → Before P u v ↔ Before Q u v
  implied_before u v = (before_among P Q more.kept, second_before)

module _ (P : Plan) where
  pub chain_free : IsChain P → free_count P ≡ 0
  unfolding free_count
  chain_free c =
      pairs_none P.events (independent P) (λ u v k l t.
      let i = (independent_test P u v).0 t in
      ⊎_elim i.not_before i.not_after (c.ordered u v (omega (arith, k, l)) l i.different))

  -- two events that aren't independent are ordered
  one_before : (u v : ℕ) → ¬ (u ≡ v) → (Independent P u v → ⊥) → Before P u v ⊎ Before P v u
  one_before u v ne dependent =
      ⊎_elim
      (λ t. inl ((before_test P u v).0 t))
      (λ n.
      ⊎_elim
      (λ t. inr ((before_test P v u).0 t))
      (λ m.
      absurd
      (dependent
      (record {
        different = ne;
        not_before = λ b. T_not (before P u v) n ((before_test P u v).1 b);
        not_after = λ b. T_not (before P v u) m ((before_test P v u).1 b);
      })))
      (decide (before P v u)))
      (decide (before P u v))

  pub free_chain : free_count P ≡ 0 → IsChain P
  unfolding free_count
  free_chain e =
      record {
        ordered = λ u v k l ne.
            ⊎_elim
            (λ t. one_before u v ne (λ i. none u v (ltb→lt u v t) l i))
            (λ t. ⊎_elim inr inl (one_before v u (λ d. ne (sym d)) (λ i. none v u (omega (arith, nltb→le u v t, ne)) k i)))
            (decide (ltb u v));
      }
    where
      none : (u v : ℕ) → u < v → v < P.events → Independent P u v → ⊥
      none u v k l i = none_pairs P.events (independent P) e u v k l ((independent_test P u v).1 i)

  -- Events in a row, each before the next, are a chain.
  module _ (next : (v : ℕ) → suc v < P.events → Before P v (suc v)) where
    in_a_row : (u v : ℕ) → u < v → v < P.events → Before P u v
    in_a_row u zero k l = absurd (not-suc-le-zero k)
    in_a_row u (suc v) k l =
        below_suc
        v
        u
        k
        (λ less. chain (in_a_row u v less (le_of_lt l)) (next v l))
        (λ e. subst (λ (x : ℕ). Before P x (suc v)) (sym e) (next v l))

    pub row_chain : IsChain P
    row_chain =
        record {
          ordered = λ u v k l ne.
              ⊎_elim
              (λ t. inl (in_a_row u v (ltb→lt u v t) l))
              (λ t. inr (in_a_row v u (omega (arith, nltb→le u v t, ne)) k))
              (decide (ltb u v));
        }

  pub unordered_free : ((u v : ℕ) → u < P.events → v < P.events → ¬ Before P u v) → free_count P ≡ P.events * (P.events - 1) / 2
  unfolding free_count
  unordered_free none =
      pairs_all P.events (independent P) (λ u v k l.
      (independent_test P u v).1
      (record {
        different = λ e. omega (arith, k, e);
        not_before = none u v (omega (arith, k, l)) l;
        not_after = none v u l (omega (arith, k, l));
      }))
