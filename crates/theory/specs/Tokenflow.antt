-- Tokenflows on "before" (003, definition 4): who gives the tokens that each event takes. A search that finds no spare tokens
-- settles the place: what is left to the opening count is the least opening count, and the events searched are the smallest done set.
use Rattle.std.specs.Prelude.{ℕ, ◌+◌, ◌-◌, ◌≤◌, ◌<◌, Bool, not, ◌≡◌, T}
use Rattle.std.proofs.Math.Nat.{le_antisymm}
use Rattle.std.proofs.Common.{eq-zero-or-pos, lt_irrefl, sym, subst, ◌∙◌, T_not}
use native.Mathlib.Omega.{arith}
use Rattle.std.proofs.Math.Bool.{true, false}
use Rattle.std.proofs.Math.Logic.{⊎_elim}
use Rattle.std.proofs.Math.Path.{ap}
use Rattle.std.proofs.Math.Facts.{or_yes}
use Rattle.finite.specs.Bounded.{decide, yes_or_left, yes_or_right}
use Rattle.finite.specs.Subset.{Set}
use Rattle.finite.specs.Sum.{on, sum, over, on_yes, on_no, on_le, on_sum, sum_ext, sum_mono, sum_zero, sum_swap, sum_tight, over_add, over_mono, over_all}
use Rattle.plan.specs.Net.{Net, Plan, taken_by, given_by}
use Rattle.plan.specs.Order.{Before, chain, Sound}
use Rattle.plan.specs.Prefix.{IsPrefix, front, missing, least_opening}
use Rattle.plan.specs.Cut.{preset}
use Rattle.theory.specs.Least.{taken, given, least_bounds, least_attained}
use Rattle.theory.specs.Missing.{missing_opening}
use Rattle.theory.specs.Prefixes.{reached, front_yes, yes_front, preset_yes, yes_preset}
use Rattle.theory.specs.Skeleton.{before_earlier}

-- y u w tokens that u gives and w takes, only where u is before w. What u gives to nobody is free, and what w gets from nobody is
-- its share of the opening count.
pub record Tokenflow (N : Net) (P : Plan) (p : ℕ) (y : ℕ → ℕ → ℕ) (free share : ℕ → ℕ) : Type 0 where
  pub gives : (u : ℕ) → u < P.events → free u + sum P.events (λ w. y u w) ≡ given_by N P p u
  pub takes : (w : ℕ) → w < P.events → share w + sum P.events (λ u. y u w) ≡ taken_by N P p w
  pub ordered : (u w : ℕ) → u < P.events → w < P.events → 0 < y u w → Before P u w

-- Takers U and givers D that a search may stop at: it goes from each taker with a share to all that is before it, and from there to
-- all that is fed.
pub record Closed (P : Plan) (y : ℕ → ℕ → ℕ) (share : ℕ → ℕ) (U D : Set) : Type 0 where
  pub roots : (w : ℕ) → w < P.events → 0 < share w → T (U w)
  pub back : (u w : ℕ) → w < P.events → T (U w) → Before P u w → T (D u)
  pub onward : (u w : ℕ) → u < P.events → w < P.events → T (D u) → 0 < y u w → T (U w)

-- The search is over: takers and givers seen are events, are closed, and lie within whatever else is; no giver has a token free.
pub record Settled (P : Plan) (y : ℕ → ℕ → ℕ) (free share : ℕ → ℕ) (U D : Set) : Type 0 where
  pub takers : (w : ℕ) → T (U w) → w < P.events
  pub givers : (u : ℕ) → T (D u) → (u < P.events) × (free u ≡ 0)
  pub closed : Closed P y share U D
  pub generated : (W E : Set) → Closed P y share W E → (u : ℕ) → T (D u) → T (E u)

module _ (N : Net) (P : Plan) (p : ℕ) (S : Sound P) (y : ℕ → ℕ → ℕ) (free share : ℕ → ℕ) (f : Tokenflow N P p y free share) where
  -- what the events of U get from the others
  into : Set → ℕ
  into U = sum P.events (λ u. sum P.events (λ w. on (U w) (y u w)))

  -- what the events of D give to the others
  from : Set → ℕ
  from D = sum P.events (λ u. on (D u) (sum P.events (λ w. y u w)))

  taken_into : (U : Set) → over P.events U (taken_by N P p) ≡ over P.events U share + into U
  unfolding into over
  taken_into U =
      sum_ext P.events _ _ (λ w l. ap (on (U w)) (sym (f.takes w l)))
      ∙ over_add P.events U share (λ w. sum P.events (λ u. y u w))
      ∙ ap (λ (z : ℕ). over P.events U share + z) (sum_ext P.events _ _ (λ w l. on_sum (U w) P.events (λ u. y u w)) ∙ sum_swap P.events P.events (λ w u. on (U w) (y u w)))

  from_given : (D : Set) → from D ≤ over P.events D (given_by N P p)
  unfolding from over
  from_given D = sum_mono P.events _ _ (λ u l. on_less (D u) (sum P.events (λ w. y u w)) (given_by N P p u) (omega (arith, f.gives u l)))
    where
      on_less : (b : Bool) (x z : ℕ) → x ≤ z → on b x ≤ on b z
      on_less true x z h = h
      on_less false x z h = omega arith

  -- what a done set and its front get comes from the done set
  module _ (D : Set) (d : IsPrefix P D) where
    comes_from : (u : ℕ) → u < P.events → sum P.events (λ w. on (reached P D w) (y u w)) ≤ on (D u) (sum P.events (λ w. y u w))
    comes_from u l =
        ⊎_elim
        (λ t. omega (arith, on_yes (D u) (sum P.events (λ w. y u w)) t, sum_mono P.events (λ w. on (reached P D w) (y u w)) (λ w. y u w) (λ w k. on_le (reached P D w) (y u w))))
        (λ t. omega (arith, sum_zero P.events (λ w. on (reached P D w) (y u w)) (λ w k. none t w k)))
        (decide (D u))
      where
        before-in : (w : ℕ) → Before P u w → T (reached P D w) → T (D u)
        before-in w b r = ⊎_elim (λ h. d.closed u w b h) (λ h. (front_yes P D w h).ready u l b) (or_yes (D w) (front P D w) r)

        none : T (not (D u)) → (w : ℕ) → w < P.events → on (reached P D w) (y u w) ≡ 0
        none t w k =
            ⊎_elim
            (λ e. omega (arith, on_le (reached P D w) (y u w)))
            (λ h. on_no (reached P D w) (y u w) (λ r. T_not (D u) t (before-in w (f.ordered u w l k h) r)))
            (eq-zero-or-pos (y u w))

    into_from : into (reached P D) ≤ from D
    unfolding into from
    into_from = sum_mono P.events _ _ comes_from

    -- No done set and its front take more than all the shares and what the done set gives.
    pub duality : taken N P p D ≤ sum P.events share + given N P p D
    unfolding taken
    duality = omega (arith, taken_into (reached P D), into_from, from_given D, over_all P.events (reached P D) share)

    -- where all of that is used up, the done set and the events reached are closed
    module _ (full : sum P.events share + given N P p D ≤ taken N P p D) where
      shares_in : (w : ℕ) → w < P.events → on (reached P D w) (share w) ≡ share w
      unfolding taken over
      shares_in =
          sum_tight
          P.events
          (λ w. on (reached P D w) (share w))
          share
          (λ w l. on_le (reached P D w) (share w))
          (omega (arith, full, taken_into (reached P D), into_from, from_given D))

      gifts_in : (u : ℕ) → u < P.events → sum P.events (λ w. on (reached P D w) (y u w)) ≡ on (D u) (sum P.events (λ w. y u w))
      unfolding taken into from
      gifts_in =
          sum_tight
          P.events
          (λ u. sum P.events (λ w. on (reached P D w) (y u w)))
          (λ u. on (D u) (sum P.events (λ w. y u w)))
          comes_from
          (omega (arith, full, taken_into (reached P D), from_given D, over_all P.events (reached P D) share))

      pub tight_closed : Closed P y share (reached P D) D
      tight_closed =
          record {
            roots = λ w l h. in-it (reached P D w) (share w) h (shares_in w l);
            back = λ u w l r b. ⊎_elim (λ h. d.closed u w b h) (λ h. (front_yes P D w h).ready u (before_earlier P S b) b) (or_yes (D w) (front P D w) r);
            onward = λ u w lu lw t h. in-it (reached P D w) (y u w) h (all_in u lu t w lw);
          }
        where
          all_in : (u : ℕ) → u < P.events → T (D u) → (w : ℕ) → w < P.events → on (reached P D w) (y u w) ≡ y u w
          all_in u l t =
              sum_tight
              P.events
              (λ z. on (reached P D z) (y u z))
              (λ z. y u z)
              (λ z k. on_le (reached P D z) (y u z))
              (omega (arith, gifts_in u l, on_yes (D u) (sum P.events (λ z. y u z)) t))

          in-it : (b : Bool) (x : ℕ) → 0 < x → on b x ≡ x → T b
          in-it true x l e = tt
          in-it false x l e = absurd (lt_irrefl 0 (subst (λ (z : ℕ). 0 < z) (sym e) l))

  -- The shares come to no less than the least opening count, so no more is missing than what they come to above the opening count.
  pub least_within : least_opening N P p ≤ sum P.events share
  least_within = let w = least_attained N P p S in omega (arith, w.2, duality w.0 w.1)

  pub missing_within : missing N P p ≤ sum P.events share - N.opening p
  missing_within = omega (arith, least_within, missing_opening N P p)

  module _ (U D : Set) (s : Settled P y free share U D) where
    -- the givers seen are a done set, and the takers seen are in it or in its front
    before_taker : (u : ℕ) → T (D u) → T (preset P U u)
    before_taker =
        s.generated
        U
        (preset P U)
        (record {
          roots = s.closed.roots;
          back = λ u w l t b. yes_preset P S U u w t b;
          onward = λ u w lu lw t h. let z = preset_yes P S U u t in s.closed.onward u w lu lw (s.closed.back u z.0 (s.takers z.0 z.1) z.1 z.2) h;
        })

    pub seen_prefix : IsPrefix P D
    seen_prefix =
        record {
          events = λ u t. (s.givers u t).0;
          closed = λ u v b t. let z = preset_yes P S U v (before_taker v t) in s.closed.back u z.0 (s.takers z.0 z.1) z.1 (chain b z.2);
        }

    seen_reached : (w : ℕ) → T (U w) → T (reached P D w)
    seen_reached w t =
        ⊎_elim
        (λ h. yes_or_left (D w) (front P D w) h)
        (λ h. yes_or_right (D w) (front P D w) (yes_front P D w (record { outside = h; ready = λ u l b. s.closed.back u w (s.takers w t) t b })))
        (decide (D w))

    all_shares : over P.events U share ≡ sum P.events share
    unfolding over
    all_shares =
        sum_ext
        P.events
        _
        _
        (λ w l. ⊎_elim (λ e. le_antisymm (on_le (U w) (share w)) (omega (arith, e))) (λ h. on_yes (U w) (share w) (s.closed.roots w l h)) (eq-zero-or-pos (share w)))

    -- all that a giver seen gives goes to takers seen
    goes_to : (u : ℕ) → u < P.events → on (D u) (given_by N P p u) ≤ sum P.events (λ w. on (U w) (y u w))
    goes_to u l =
        ⊎_elim
        (λ t. omega (arith, on_yes (D u) (given_by N P p u) t, f.gives u l, (s.givers u t).1, sum_mono P.events (λ w. y u w) (λ w. on (U w) (y u w)) (λ w k. kept t w k)))
        (λ t. omega (arith, on_no (D u) (given_by N P p u) (T_not (D u) t)))
        (decide (D u))
      where
        kept : T (D u) → (w : ℕ) → w < P.events → y u w ≤ on (U w) (y u w)
        kept t w k =
            ⊎_elim
            (λ e. omega arith)
            (λ h. omega (arith, on_yes (U w) (y u w) (s.closed.onward u w l k t h)))
            (eq-zero-or-pos (y u w))

    -- the done set seen asks for all the shares
    pub seen_full : sum P.events share + given N P p D ≤ taken N P p D
    unfolding taken over into
    seen_full =
        omega (
          arith,
          all_shares,
          taken_into U,
          sum_mono P.events (λ u. on (D u) (given_by N P p u)) (λ u. sum P.events (λ w. on (U w) (y u w))) goes_to,
          over_mono P.events U (reached P D) (taken_by N P p) (λ w l t. seen_reached w t),
        )

    -- The shares come to the least opening count, and the missing count is what they come to above the opening count.
    pub settled_least : least_opening N P p ≡ sum P.events share
    settled_least = omega (arith, least_within, least_bounds N P p S D seen_prefix, seen_full)
