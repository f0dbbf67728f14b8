-- A tokenflow on "before" folded onto the skeleton pairs is a compact tokenflow (003, theorem 2).
use Rattle.std.specs.Prelude.{ℕ, ◌+◌, ◌≤◌, ◌<◌, not, ◌&&◌, ◌||◌, ◌≡◌, eqb, leb}
use Rattle.std.proofs.Common.{arith, ⊎_elim, sym, ap, ◌∙◌}
use Rattle.std.proofs.Math.Dec.{T, le→leb}
use Rattle.std.proofs.Math.Facts.{yes_and, yes_eqb}
use Rattle.finite.specs.Bounded.{decide, yes_all, yes_or_left, yes_or_right}
use Rattle.finite.specs.Sum.{on, sum, at_end, sum_ext}
use Rattle.plan.specs.Net.{Net, Plan}
use Rattle.plan.specs.Order.{skeleton}
use Rattle.plan.specs.Flow.{Flow, shares, inflow, outflow, rule1, rule2, rule3, rule4, valid}
use Rattle.theory.specs.Duality.{Passes, passes_rules}
use Rattle.theory.specs.Tokenflow.{Tokenflow}

-- the numbers on pairs that end at v, and on those that start there
abbrev pub entering : Plan → Flow → ℕ → ℕ
entering P x v = at_end P.pairs P.later x v

abbrev pub leaving : Plan → Flow → ℕ → ℕ
leaving P x v = at_end P.pairs P.earlier x v

-- The numbers on the pairs carry the tokens y u w from u to w, by skeleton pairs: what enters v is what it gets and what it passes on.
pub record Folded (P : Plan) (y : ℕ → ℕ → ℕ) (x : Flow) : Type 0 where
  pub balance : (v : ℕ) → v < P.events → entering P x v + sum P.events (λ w. y v w) ≡ leaving P x v + sum P.events (λ u. y u v)
  pub received : (v : ℕ) → v < P.events → sum P.events (λ u. y u v) ≤ entering P x v
  pub bare : (i : ℕ) → i < P.pairs → T (not (skeleton P i)) → x i ≡ 0

-- the same tokens and the same numbers
pub folded_ext : (P : Plan) (y y' : ℕ → ℕ → ℕ) (x : Flow) → Folded P y x
    → ((a b : ℕ) → a < P.events → b < P.events → y a b ≡ y' a b) → Folded P y' x
folded_ext P y y' x f same =
    record {
      balance = λ v l. omega (arith, f.balance v l, sum_ext P.events (y v) (y' v) (λ w h. same v w l h), gets v l);
      received = λ v l. omega (arith, f.received v l, gets v l);
      bare = f.bare;
    }
  where
    gets : (v : ℕ) → v < P.events → sum P.events (λ u. y u v) ≡ sum P.events (λ u. y' u v)
    gets v l = sum_ext P.events _ _ (λ u h. same u v h l)

-- the same numbers on the pairs
pub folded_row : (P : Plan) (y : ℕ → ℕ → ℕ) (x z : Flow) → Folded P y x → ((i : ℕ) → i < P.pairs → x i ≡ z i) → Folded P y z
unfolding at_end
folded_row P y x z f same =
    record {
      balance = λ v l. omega (arith, f.balance v l, ends P.later v, ends P.earlier v);
      received = λ v l. omega (arith, f.received v l, ends P.later v);
      bare = λ i l b. sym (same i l) ∙ f.bare i l b;
    }
  where
    ends : (e : ℕ → ℕ) (v : ℕ) → at_end P.pairs e x v ≡ at_end P.pairs e z v
    ends e v = sum_ext P.pairs _ _ (λ i l. ap (on (eqb (e i) v)) (same i l))

module _ (N : Net) (P : Plan) (p : ℕ) (y : ℕ → ℕ → ℕ) (free share : ℕ → ℕ) (t : Tokenflow N P p y free share) where
  module _ (x : Flow) (f : Folded P y x) (same : (v : ℕ) → v < P.events → x (P.pairs + v) ≡ share v) where
    passes : Passes N P p x
    unfolding inflow outflow
    passes =
        record {
          fed = λ v l. omega (arith, t.takes v l, f.received v l, same v l);
          kept = λ v l. omega (arith, t.takes v l, t.gives v l, f.balance v l, same v l);
        }

    -- Beside the shares of its takers a folded tokenflow is a valid row, if the opening count covers them.
    pub folded_valid : sum P.events share ≤ N.opening p → T (valid N P p x)
    unfolding valid rule3 rule4 shares
    folded_valid covered =
        let r = passes_rules N P p x passes in
        yes_and
        (rule1 N P p x && rule2 N P p x && rule3 N P p x)
        (rule4 P x)
        (yes_and (rule1 N P p x && rule2 N P p x) (rule3 N P p x) (yes_and (rule1 N P p x) (rule2 N P p x) r.0 r.1) covers)
        (yes_all P.pairs _ bare)
      where
        covers : T (leb (shares P x) (N.opening p))
        covers = le→leb (shares P x) (N.opening p) (omega (arith, covered, sum_ext P.events (λ v. x (P.pairs + v)) share same))

        bare : (i : ℕ) → i < P.pairs → T (skeleton P i || eqb (x i) 0)
        bare i l =
            ⊎_elim
            (λ b. yes_or_left (skeleton P i) (eqb (x i) 0) b)
            (λ b. yes_or_right (skeleton P i) (eqb (x i) 0) (yes_eqb (f.bare i l b)))
            (decide (skeleton P i))
