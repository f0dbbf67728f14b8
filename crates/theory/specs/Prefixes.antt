-- Done sets, fronts and presets by what their tests say, and as stages: by all pairs, and by skeleton pairs alone.
use Rattle.std.specs.Prelude.{ℕ, zero, suc, ◌<◌, not, ◌&&◌, ◌↔◌}
use Rattle.std.proofs.Common.{not-suc-le-zero, lt-suc_self, arith, ⊎_elim, sym, subst, lt→ltb, ltb→lt}
use Rattle.std.proofs.Math.Dec.{T}
use Rattle.std.proofs.Math.Facts.{and_yes, yes_and, or_yes}
use Rattle.finite.specs.Bounded.{any_yes, yes_any, all, all_yes, yes_all, ◌⇒◌, imp_yes, yes_imp, decide, yes_or_left, yes_or_right}
use Rattle.finite.specs.Subset.{Set, Within, empty}
use Rattle.plan.specs.Net.{Plan}
use Rattle.plan.specs.Order.{Before, pair, chain, before, Sound, skeleton}
use Rattle.plan.proofs.Closure.{before_test}
use Rattle.plan.specs.Prefix.{IsPrefix, prefix, front, full}
use Rattle.plan.specs.Cut.{preset}
use Rattle.theory.specs.Skeleton.{before_later, before_earlier, last_link, between, earlier_end}
use Rattle.theory.specs.Stage.{Stage, either}

-- the test of a done set, without regard to what the pairs name
pub record DownClosed (P : Plan) (D : Set) : Type 0 where
  pub closed : (u v : ℕ) → u < P.events → v < P.events → Before P u v → T (D v) → T (D u)

module _ (P : Plan) (D : Set) where
  pub prefix_closed : T (prefix P D) → DownClosed P D
  unfolding prefix
  prefix_closed t =
      record { closed = λ u v lu lv b d. imp_yes (D v && before P u v) (D u) (all_yes P.events _ (all_yes P.events _ t v lv) u lu) (yes_and (D v) (before P u v) d ((before_test P u v).1 b)) }

  pub closed_prefix : DownClosed P D → T (prefix P D)
  unfolding prefix
  closed_prefix c =
      yes_all P.events _ (λ v lv. yes_all P.events _ (λ u lu. yes_imp (D v && before P u v) (D u) (into u v lu lv)))
    where
      into : (u v : ℕ) → u < P.events → v < P.events → T (D v && before P u v) → T (D u)
      into u v lu lv t = let h = and_yes (D v) (before P u v) t in c.closed u v lu lv ((before_test P u v).0 h.1) h.0

  -- an event of the front: outside, with all that is before it inside
  pub record InFront (v : ℕ) : Type 0 where
    pub outside : T (not (D v))
    pub ready : (u : ℕ) → u < P.events → Before P u v → T (D u)

  pub front_yes : (v : ℕ) → T (front P D v) → InFront v
  unfolding front
  front_yes v t =
      let h = and_yes (not (D v)) (all P.events (λ u. before P u v ⇒ D u)) t in
      record { outside = h.0; ready = λ u l b. imp_yes (before P u v) (D u) (all_yes P.events _ h.1 u l) ((before_test P u v).1 b) }

  pub yes_front : (v : ℕ) → InFront v → T (front P D v)
  unfolding front
  yes_front v f =
      yes_and
      (not (D v))
      (all P.events (λ u. before P u v ⇒ D u))
      f.outside
      (yes_all P.events _ (λ u l. yes_imp (before P u v) (D u) (λ t. f.ready u l ((before_test P u v).0 t))))

  -- in a plan whose pairs name events the test says what the definition says
  module _ (S : Sound P) where
    pub prefix_is : Within P.events D → T (prefix P D) ↔ IsPrefix P D
    prefix_is w = (
      λ t. record { events = w.below; closed = λ u v b d. (prefix_closed t).closed u v (before_earlier P S b) (before_later P S b) b d },
      λ p. closed_prefix (record { closed = λ u v lu lv b d. p.closed u v b d }),
    )

-- an IsPrefix set is a set of events
pub within : (P : Plan) (D : Set) → IsPrefix P D → Within P.events D
within P D p = record { below = p.events }

pub empty_prefix : (P : Plan) → IsPrefix P empty
empty_prefix P = record { events = λ v t. absurd t; closed = λ u v b t. absurd t }

-- the full set, and the events before some member of a set
module _ (P : Plan) (S : Sound P) where
  pub full_prefix : IsPrefix P (full P)
  full_prefix =
      record { events = λ v t. ltb→lt v P.events t; closed = λ u v b t. lt→ltb u P.events (before_earlier P S b) }

  pub preset_yes : (C : Set) (v : ℕ) → T (preset P C v) → (w : ℕ) × T (C w) × Before P v w
  unfolding preset
  preset_yes C v t =
      let w = any_yes P.events _ t in
      let b = and_yes (C w.0) (before P v w.0) w.2 in
      (w.0, b.0, (before_test P v w.0).0 b.1)

  pub yes_preset : (C : Set) (v w : ℕ) → T (C w) → Before P v w → T (preset P C v)
  unfolding preset
  yes_preset C v w c b = yes_any P.events _ w (before_later P S b) (yes_and (C w) (before P v w) c ((before_test P v w).1 b))

  pub preset_prefix : (C : Set) → IsPrefix P (preset P C)
  preset_prefix C =
      record { events = λ v t. before_earlier P S (preset_yes C v t).2; closed = λ u v b t. let w = preset_yes C v t in yes_preset C u w.0 w.1 (chain b w.2) }

-- a done set with its front
abbrev pub reached : Plan → Set → Set
reached P D = either D (front P D)

module _ (P : Plan) (S : Sound P) (D : Set) where
  -- with its front, a done set is a stage of all the pairs
  pub prefix_stage : (used : Set) → IsPrefix P D → Stage P.pairs P.earlier P.later used D (reached P D)
  prefix_stage used p =
      record {
        inside = λ v d. yes_or_left (D v) (front P D v) d;
        into = λ i l g u.
            ⊎_elim
            (λ d. p.closed (P.earlier i) (P.later i) (pair i l) d)
            (λ f. (front_yes P D (P.later i) f).ready (P.earlier i) (S.earlier_named i l) (pair i l))
            (or_yes (D (P.later i)) (front P D (P.later i)) u);
      }

  module _ (U : Set) (w : Within P.events D) (s : Stage P.pairs P.earlier P.later (skeleton P) D U) where
    -- in a stage of the skeleton pairs, all that is before an event of U is in D
    closes_by : (k u v : ℕ) → between P S u v < k → Before P u v → T (U v) → T (D u)
    closes_by zero u v h b t = absurd (not-suc-le-zero h)
    closes_by (suc k) u v h b t =
        let i = last_link P S b in
        let e : ℕ = P.earlier i.link.index in
        let d : T (D e) = s.into i.link.index i.link.named i.bare (subst (λ (x : ℕ). T (U x)) (sym i.link.ends) t) in
        ⊎_elim
        (λ same. subst (λ (x : ℕ). T (D x)) same d)
        (λ c. closes_by k u e (omega (arith, earlier_end P S u e v c (subst (λ (x : ℕ). Before P e x) i.link.ends (pair i.link.index i.link.named)))) c (s.inside e d))
        i.link.starts

    closes : (u v : ℕ) → Before P u v → T (U v) → T (D u)
    closes u v b t = closes_by (suc (between P S u v)) u v (lt-suc_self _) b t

    pub stage_prefix : IsPrefix P D
    stage_prefix = record { events = w.below; closed = λ u v b d. closes u v b (s.inside v d) }

    pub stage_reached : (v : ℕ) → T (U v) → T (reached P D v)
    stage_reached v t =
        ⊎_elim
        (λ d. yes_or_left (D v) (front P D v) d)
        (λ n. yes_or_right (D v) (front P D v) (yes_front P D v (record { outside = n; ready = λ u l b. closes u v b t })))
        (decide (D v))
