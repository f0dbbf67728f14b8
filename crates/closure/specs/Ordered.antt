-- The first order pairs of a plan, as a test; whatever is ordered is an event.
use Rattle.std.specs.Prelude.{ℕ, ◌<◌, Bool, ◌&&◌, T}
use Rattle.std.proofs.Common.{sym, eqb→eq}
use Rattle.std.proofs.Math.Path.{subst}
use Rattle.std.proofs.Math.Dec.{eqb}
use Rattle.std.proofs.Math.Facts.{and_yes}
use Rattle.finite.specs.Bounded.{any, any_yes}
use Rattle.plan.specs.Net.{Plan}
use Rattle.plan.specs.Order.{Before, pair, chain, Named}

-- (u, v) is one of the first m order pairs
unfoldable pub is_pair : Plan → ℕ → ℕ → ℕ → Bool
is_pair P m u v = any m (λ i. eqb u (P.earlier i) && eqb v (P.later i))

module _ (P : Plan) where
  pub pair_before : (u v : ℕ) → T (is_pair P P.pairs u v) → Before P u v
  unfolding is_pair
  pair_before u v h =
      let some = any_yes P.pairs (λ i. eqb u (P.earlier i) && eqb v (P.later i)) h in
      let i = some.0 in
      let ends = and_yes (eqb u (P.earlier i)) (eqb v (P.later i)) some.2 in
      subst
      (λ (x : ℕ). Before P x v)
      (sym (eqb→eq u (P.earlier i) ends.0))
      (subst (λ (y : ℕ). Before P (P.earlier i) y) (sym (eqb→eq v (P.later i) ends.1)) (pair i some.1))

  module _ (named : Named P) where
    -- whatever is ordered is an event
    pub before_events : {u v : ℕ} → Before P u v → (u < P.events) × (v < P.events)
    before_events (pair i l) = (named.earlier i l, named.later i l)
    before_events (chain p q) = ((before_events p).0, (before_events q).1)
