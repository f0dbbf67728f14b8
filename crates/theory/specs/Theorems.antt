-- The theorems about the definitions of the crate `plan`, each statement as a record whose fields are its clauses.
-- They hold of every plan without a cycle whose pairs name events, that of the free count of any plan, and of every place; no number has a limit.
use Prim.Native.Nat.{ℕ, suc, ◌+◌, ◌-◌, ◌*◌, ◌/◌, ◌≤◌, ◌<◌}
use Rattle.std.proofs.Common.{arith, inl, inr, ⊎_elim, sym, subst, eqb→eq, le→leb, eq-zero-or-pos}
use Rattle.std.specs.Prelude.{◌⊎◌, ◌↔◌, ◌≡◌, eqb, ℤ, negsuc, neg_ℤ, ◌+ℤ◌, ◌-ℤ◌}
use Rattle.std.proofs.Math.Path.{subst₂}
use Rattle.std.proofs.Math.Dec.{T, eqb_refl}
use Rattle.std.proofs.Math.IntN.{pos}
use Rattle.std.specs.Int.Signed.{◌≤ℤ◌}
use Rattle.finite.specs.Count.{count}
use Rattle.finite.specs.Subset.{Set, empty}
use Rattle.finite.specs.Sum.{sum, over, over_mono}
use Rattle.plan.specs.Net.{Net, Plan, taken_by, Labelled}
use Rattle.plan.specs.Order.{Before, Sound, independent, free_count, IsChain}
use Rattle.plan.specs.Prefix.{IsPrefix, front, full, step_lack, lack, above0, missing, need, least_opening, spare, runs_at, runs, smallest, end_count}
use Rattle.plan.specs.Cut.{IsCut, preset, Executable, Execution}
use Rattle.plan.specs.Flow.{Flow, valid, otherwise_valid, overrun, shares}
use Rattle.plan.specs.Compare.{with_more, opens_with, MoreOrder, ImpliedPairs, SameAt, SameWeights}
use Rattle.theory.specs.Cuts.{taken_up_to, some_cut}
use Rattle.theory.specs.Free.{free_twice, free_order, free_same, implied_before, chain_free, free_chain, row_chain, unordered_free}
use Rattle.theory.specs.Least.{taken}
use Rattle.theory.specs.Missing.{supply, step_lack_is, lack_is, lack_above0, missing_bounds, missing_attained}
use Rattle.theory.specs.Prefixes.{empty_prefix, full_prefix}
use Rattle.theory.specs.Signs.{minus_below}
use Rattle.theory.specs.Smallest.{positive}

-- "The empty set and the full set are done sets."
pub record Extremes (P : Plan) : Type 0 where
  pub empty_set : IsPrefix P empty
  pub full_set : IsPrefix P (full P)

-- "The whole front is the hardest case, and every such case follows from some cut."
pub record Hardest (N : Net) (P : Plan) (p : ℕ) : Type 0 where
  -- any part of a front lacks no more than the whole
  pub whole_front : (D E : Set) → ((v : ℕ) → T (E v) → T (front P D v)) → step_lack N P p D E ≤ℤ lack N P p D
  -- some cut lacks no less after the events before it
  pub by_cut : (D : Set) → IsPrefix P D → (C : Set) × IsCut P C × (lack N P p D ≤ℤ step_lack N P p (preset P C) C)

-- The missing count is the greatest lack over all done sets, or 0 if none is above 0.
pub record IsMissing (N : Net) (P : Plan) (p m : ℕ) : Type 0 where
  pub bounds : (D : Set) → IsPrefix P D → lack N P p D ≤ℤ pos m
  pub attained : (m ≡ 0) ⊎ ((D : Set) × IsPrefix P D × (lack N P p D ≡ pos m))

-- The verdict is the published one.
pub record Verdict (N : Net) (P : Plan) (p : ℕ) : Type 0 where
  -- a plan runs at a place exactly if every done set there is enabled: its front takes no more than there is
  pub by_prefixes : T (runs_at N P p) ↔ ((D : Set) → IsPrefix P D → lack N P p D ≤ℤ pos 0)
  -- and exactly if every cut is (001, definition 6; 003, definition 3)
  pub by_cuts : T (runs_at N P p) ↔ Executable N P p
  -- and exactly if a valid compact tokenflow exists (003, theorems 2 to 4)
  pub by_flows : T (runs_at N P p) ↔ ((x : Flow) × T (valid N P p x))

-- The verdict on the whole plan is the published one.
pub record PlanVerdict (N : Net) (P : Plan) : Type 0 where
  -- a plan runs exactly if it is an execution of the net: every cut is covered at every place (001, definition 6; 003, definition 3)
  pub by_cuts : T (runs N P) ↔ Execution N P
  -- and exactly if every place has a valid compact tokenflow (003, theorems 2 to 4)
  pub by_flows : T (runs N P) ↔ ((p : ℕ) → p < N.places → (x : Flow) × T (valid N P p x))

-- The least opening count with which the plan runs at a place.
pub record LeastOpening (N : Net) (P : Plan) (p : ℕ) : Type 0 where
  -- it is the greatest need over all done sets
  pub need_bounds : (D : Set) → IsPrefix P D → need N P p D ≤ℤ pos (least_opening N P p)
  pub need_reached : (D : Set) × IsPrefix P D × (need N P p D ≡ pos (least_opening N P p))
  -- with k tokens opening the plan runs there exactly if k is no less
  pub runs_from : (k : ℕ) → T (runs_at (opens_with N p k) P p) ↔ (least_opening N P p ≤ k)
  -- some flow otherwise valid has exactly as many shares, none fewer
  pub shares_reached : (x : Flow) × T (otherwise_valid N P p x) × (shares P x ≡ least_opening N P p)
  pub not_undercut : (x : Flow) → T (otherwise_valid N P p x) → least_opening N P p ≤ shares P x
  -- it doesn't know the opening count; lack and missing count are what need and least opening count are above that
  pub any_opening : (M : Net) (q : ℕ) → SameWeights N P p M P q → least_opening M P q ≡ least_opening N P p
  pub lack_above : (D : Set) → lack N P p D ≡ need N P p D -ℤ pos (N.opening p)
  pub missing_above : missing N P p ≡ least_opening N P p - N.opening p

-- All that is said of a place depends on what each event takes and gives there, the order and the opening count alone. In plans taken or not.
pub record SameNumbers (N : Net) (P : Plan) (p : ℕ) (M : Net) (Q : Plan) (q : ℕ) : Type 0 where
  pub same_least : least_opening N P p ≡ least_opening M Q q
  pub same_missing : missing N P p ≡ missing M Q q
  pub same_spare : spare N P p ≡ spare M Q q
  pub same_lack : (D : Set) → lack N P p D ≡ lack M Q q D
  pub same_smallest : smallest N P p ≡ smallest M Q q
  pub same_end : end_count N P p ≡ end_count M Q q

-- Demand 3, about the definition.
pub record LeastCount (N : Net) (P : Plan) (p : ℕ) : Type 0 where
  -- that many tokens more and it runs, fewer and it doesn't
  pub enough : (k : ℕ) → missing N P p ≤ k → T (runs_at (with_more N p k) P p)
  pub too_few : (k : ℕ) → k < missing N P p → ¬ T (runs_at (with_more N p k) P p)
  -- some flow otherwise valid overruns by exactly as many, none by fewer
  pub overrun_reached : (x : Flow) × T (otherwise_valid N P p x) × (overrun N P p x ≡ missing N P p)
  pub not_undercut : (x : Flow) → T (otherwise_valid N P p x) → missing N P p ≤ overrun N P p x
  -- k more tokens opening lower it by k, at most to 0
  pub more_tokens : (k : ℕ) → missing (with_more N p k) P p ≡ missing N P p - k
  -- more order never raises it
  pub more_order : (Q : Plan) → MoreOrder P Q → missing N Q p ≤ missing N P p
  -- other places' numbers don't matter
  pub other_places : (M : Net) → Labelled N P → SameAt p N M → missing M P p ≡ missing N P p

-- The spare count: the opening count less the least opening count, with its sign. Document 02, A3.
pub record SpareCount (N : Net) (P : Plan) (p : ℕ) : Type 0 where
  -- the plan runs there exactly if it isn't below 0,
  pub runs_unless : T (runs_at N P p) ↔ (pos 0 ≤ℤ spare N P p)
  -- and with k tokens opening exactly if k is no less than the opening count less the spare count: the least opening count
  pub runs_from : (k : ℕ) → T (runs_at (opens_with N p k) P p) ↔ ((pos (N.opening p) -ℤ spare N P p) ≤ℤ pos k)
  -- some flow otherwise valid has exactly as many shares, none fewer
  pub shares_reached : (x : Flow) × T (otherwise_valid N P p x) × (pos (shares P x) ≡ pos (N.opening p) -ℤ spare N P p)
  pub not_undercut : (x : Flow) → T (otherwise_valid N P p x) → (pos (N.opening p) -ℤ spare N P p) ≤ℤ pos (shares P x)
  -- the missing count is its negative, or 0 where it isn't below 0
  pub missing_is : missing N P p ≡ above0 (neg_ℤ (spare N P p))
  -- it lies between the opening count and the negative of all that is taken
  pub at_most : spare N P p ≤ℤ pos (N.opening p)
  pub at_least : neg_ℤ (pos (sum P.events (taken_by N P p))) ≤ℤ spare N P p
  -- k more tokens opening raise it by exactly k
  pub more_tokens : (k : ℕ) → spare (with_more N p k) P p ≡ spare N P p +ℤ pos k
  -- more order never lowers it
  pub more_order : (Q : Plan) → MoreOrder P Q → spare N P p ≤ℤ spare N Q p
  -- other places' numbers don't matter
  pub other_places : (M : Net) → Labelled N P → SameAt p N M → spare M P p ≡ spare N P p

-- The free count: how many unordered pairs of events are free of each other. Document 02, A6.
pub record FreeCount (P : Plan) : Type 0 where
  -- counted both ways round, each two events are counted twice
  pub both_ways : sum P.events (λ v. count P.events (λ u. independent P u v)) ≡ 2 * free_count P
  -- it depends on "before" alone,
  pub same_before : (Q : Plan) → P.events ≡ Q.events → ((u v : ℕ) → Before P u v ↔ Before Q u v) → free_count Q ≡ free_count P
  -- so it doesn't change when pairs are added that the order already implies, or dropped that it implies without them
  pub implied_added : (Q : Plan) → ImpliedPairs P Q → free_count Q ≡ free_count P
  pub implied_dropped : (Q : Plan) → ImpliedPairs Q P → free_count Q ≡ free_count P
  -- it is 0 exactly in a chain; so it is where each event is before the next
  pub none_free : (free_count P ≡ 0) ↔ IsChain P
  pub in_a_row : ((v : ℕ) → suc v < P.events → Before P v (suc v)) → free_count P ≡ 0
  -- n events without order have n(n − 1)/2
  pub all_free : ((u v : ℕ) → u < P.events → v < P.events → ¬ Before P u v) → free_count P ≡ P.events * (P.events - 1) / 2
  -- more order never raises it
  pub more_order : (Q : Plan) → MoreOrder P Q → free_count Q ≤ free_count P

-- ---- the proofs

pub extremes : (P : Plan) → Sound P → Extremes P
extremes P S = record { empty_set = empty_prefix P; full_set = full_prefix P S }

pub free_count_lem : (P : Plan) → FreeCount P
free_count_lem P =
    record {
      both_ways = free_twice P;
      same_before = free_same P;
      implied_added = λ Q more. free_same P Q more.events (implied_before P Q more);
      implied_dropped = λ Q more. sym (free_same Q P more.events (implied_before Q P more));
      none_free = (free_chain P, chain_free P);
      in_a_row = λ next. chain_free P (row_chain P next);
      all_free = unordered_free P;
      more_order = λ Q m. free_order P Q m.events m.order;
    }

pub below_above0 : (z : ℤ) (m : ℕ) → above0 z ≤ m → z ≤ℤ pos m
below_above0 (pos n) m h = record { le = le→leb n m h }
below_above0 (negsuc n) m h = record { le = tt }

pub runs_none : (N : Net) (P : Plan) (p : ℕ) → T (runs_at N P p) ↔ (missing N P p ≡ 0)
unfolding runs_at
runs_none N P p = (eqb→eq (missing N P p) 0, λ e. subst (λ (m : ℕ). T (eqb m 0)) (sym e) (eqb_refl 0))

module _ (N : Net) (P : Plan) (p : ℕ) (S : Sound P) where
  pub missing_is : IsMissing N P p (missing N P p)
  missing_is =
      record {
        bounds = λ D d. below_above0 (lack N P p D) (missing N P p) (omega (arith, missing_bounds N P p S D d, lack_above0 N P p D));
        attained = ⊎_elim inl (λ l. inr (reached l)) (eq-zero-or-pos (missing N P p));
      }
    where
      reached : 0 < missing N P p → (D : Set) × IsPrefix P D × (lack N P p D ≡ pos (missing N P p))
      reached l =
          let w = missing_attained N P p S in
          (w.0, w.1, positive (lack N P p w.0) (missing N P p) (omega (arith, w.2, lack_above0 N P p w.0)) l)

  pub hardest : Hardest N P p
  unfolding lack
  hardest =
      let takes : Set → ℕ = λ E. over P.events E (taken_by N P p) in
      record {
        whole_front = λ D E part.
            subst₂
            ◌≤ℤ◌
            (sym (step_lack_is N P p D E))
            (sym (step_lack_is N P p D (front P D)))
            (minus_below (takes E + takes D) (supply N P p D) (takes (front P D) + takes D) (supply N P p D) (omega (arith, over_mono P.events E (front P D) (taken_by N P p) (λ v l t. part v t))));
        by_cut = λ D d.
            let w = some_cut N P p S D d in
            let before : Set = preset P w.0 in
            let less = minus_below (taken N P p D) (supply N P p D) (taken_up_to N P p w.0) (supply N P p before) w.2 in
            (w.0, w.1, subst₂ ◌≤ℤ◌ (sym (lack_is N P p D)) (sym (step_lack_is N P p before w.0)) less);
      }
