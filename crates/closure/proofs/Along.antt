-- Along the list of the event at h in the queue: its pairs from `at` on are carried, besides those of which D is said.
use Prim.Native.Nat.{ℕ, ◌+◌, ◌-◌, ◌≤◌, ◌<◌}
use native.Mathlib.Numerals.{lt_of_le_of_ne}
use native.Mathlib.Omega.{arith}
use mathlib.Core.List.{List}
use mathlib.Core.Logic.{◌⊎◌, inl, inr, ⊎_elim}
use mathlib.Core.Path.{◌≡◌, sym, ap, ◌∙◌}
use lib.Dec.{eqb, eqb→eq, ltb, ltb→lt, nltb→le}
use lib.ListN.{get_or}
use mir.Facts.{yes_eqb, eqb_no}
use Rattle.closure.specs.Carried.{Carried, RowCarried, carried_less, carried_more}
use Rattle.finite.specs.Bounded.{decide}
use Rattle.finite.specs.Last.{last, last_le, last_passes, last_above}
use Rattle.ids.specs.Limits.{most_events, most_pairs}
use Rattle.plan.specs.Net.{Plan}
use Rattle.sorting.specs.Arranged.{Sorted}
use Rattle.sorting.specs.InRows.{plan_in}
use Rattle.sorting.specs.Waiting.{starts_at}
use Rattle.sorting.specs.declared.Sorting.{Sorting}
use Rattle.sorting.specs.declared.pairs.Pairs.{Pairs}

module _ (P : Plan) (u : ℕ) where
  -- D is said of pair i, or it is a pair of the event u from `at` on
  abbrev or_own : (ℕ → Type 0) → ℕ → ℕ → Type 0
  or_own D at i = D i ⊎ ((P.earlier i ≡ u) × (at ≤ i))

  -- Such pairs are carried; `at` leads to a pair of the event, or is 0.
  pub record Along (D : ℕ → Type 0) (at : ℕ) (rows : List ℕ) : Type 0 where
    pub here : (k : ℕ) → at ≡ k + 1 → (k < P.pairs) × (P.earlier k ≡ u)
    pub carried : Carried P (or_own D at) rows

module _ (p : Pairs) (s : Sorting) (sorted : Sorted (plan_in p) s) (h : ℕ) (place : h < p.events) where
  abbrev P : Plan
  P = plan_in p

  abbrev u : ℕ
  u = get_or s.queue h 0

  pub event : u < p.events
  event = sorted.arranged.events h place

  pub event_few : u < most_events
  event_few = omega (arith, event, p.within.few)

  -- the link to the last pair of the event below m
  linked : (m at : ℕ) → m ≤ p.count → at ≡ last m (starts_at P u) → (k : ℕ) → at ≡ k + 1 → (k < p.count) × (P.earlier k ≡ u)
  linked m at few is k e =
      let there : last m (starts_at P u) ≡ k + 1 = sym is ∙ e in
      (omega (arith, few, last_le (starts_at P u) m, there), eqb→eq (P.earlier k) u (last_passes (starts_at P u) m k there))

  pub head_few : get_or s.lists.first u 0 ≤ most_pairs
  head_few = omega (arith, sorted.lists.heads u event_few, last_le (starts_at P u) p.count, p.within.most)

  module _ (D : ℕ → Type 0) where
    pub along_start : (rows : List ℕ) → Carried P D rows → Along P u D (get_or s.lists.first u 0) rows
    along_start rows c =
        let is = sorted.lists.heads u event_few in
        record {
          here = linked p.count (get_or s.lists.first u 0) (omega arith) is;
          carried = carried_less P c (λ i l.
              ⊎_elim
              (λ d. d)
              (λ own. absurd (omega (arith, own.1, is, last_above (starts_at P u) p.count i l (yes_eqb own.0)))));
        }

    module _ (at : ℕ) (rows : List ℕ) (along : Along P u D at rows) where
      pub along_end : (E : ℕ → Type 0) → at ≡ 0 → ((i : ℕ) → E i → D i ⊎ (P.earlier i ≡ u)) → Carried P E rows
      along_end E none all = carried_less P along.carried (λ i l e. ⊎_elim inl (λ own. inr (own, omega (arith, none))) (all i e))

      module _ (some : 0 < at) where
        pub this : (at - 1 < p.count) × (P.earlier (at - 1) ≡ u)
        this = along.here (at - 1) (omega (arith, some))

        pub this_few : at - 1 < most_pairs
        this_few = omega (arith, this.0, p.within.most)

        pub this_end : P.later (at - 1) < most_events
        this_end = omega (arith, p.within.named.later (at - 1) this.0, p.within.few)

        link : get_or s.lists.next (at - 1) 0 ≡ last (at - 1) (starts_at P u)
        link = sorted.lists.links (at - 1) this.0 ∙ ap (λ (x : ℕ). last (at - 1) (starts_at P x)) this.1

        -- the next pair of the list is an earlier one
        pub along_less : get_or s.lists.next (at - 1) 0 < at
        along_less = omega (arith, some, link, last_le (starts_at P u) (at - 1))

        pub along_more : {new : List ℕ} → ((i : ℕ) → i < p.count → P.later i ≡ P.earlier (at - 1) → D i)
            → RowCarried rows new (P.earlier (at - 1)) (P.later (at - 1)) → Along P u D (get_or s.lists.next (at - 1) 0) new
        along_more whole row =
            record {
              here = linked (at - 1) (get_or s.lists.next (at - 1) 0) (omega (arith, this.0)) link;
              carried =
                  carried_less
                  P
                  (carried_more P p.within.named p.within.few (at - 1) along.carried this.0 (λ i l e. inl (whole i l e)) row)
                  (λ i l. ⊎_elim (λ d. inr (inl d)) (λ own. own-more i own.0 own.1));
            }
          where
            own-more : (i : ℕ) → P.earlier i ≡ u → get_or s.lists.next (at - 1) 0 ≤ i → (i ≡ at - 1) ⊎ or_own P u D at i
            own-more i e l =
                ⊎_elim
                (λ same. inl (eqb→eq i (at - 1) same))
                (λ other.
                ⊎_elim
                (λ low. absurd (omega (arith, l, link, last_above (starts_at P u) (at - 1) i (ltb→lt i (at - 1) low) (yes_eqb e))))
                (λ high. inr (inr (e, above (eqb_no other) (nltb→le i (at - 1) high))))
                (decide (ltb i (at - 1))))
                (decide (eqb i (at - 1)))
              where
                above : ¬ (i ≡ at - 1) → at - 1 ≤ i → at ≤ i
                above other low = omega (arith, some, lt_of_le_of_ne low (λ e. other (sym e)))
