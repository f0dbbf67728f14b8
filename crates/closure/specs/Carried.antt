-- Rows of what is before each event, worked out pair by pair: a pair is carried if its earlier event, and all that is before that, are marked in the row
-- of its later event.
use Rattle.std.specs.Prelude.{ℕ, ◌≤◌, ◌<◌, List, ◌⊎◌, ◌≡◌, refl, T, replicate}
use Rattle.std.proofs.Common.{lt_of_lt_of_le, inl, inr, ⊎_elim, sym, subst}
use Rattle.closure.specs.Ordered.{before_events}
use Rattle.closure.specs.PlanRows.{Predecessors}
use Rattle.ids.specs.Limits.{most_events}
use Rattle.marks.specs.Marks.{marked, none_marked}
use Rattle.plan.specs.Net.{Plan}
use Rattle.plan.specs.Order.{Before, pair, chain, Named}

-- Nothing but what is before an event is marked in its row.
pub record Within (P : Plan) (rows : List ℕ) : Type 0 where
  pub only : (v u : ℕ) → u < most_events → T (marked rows v u) → Before P u v

-- They are, and all pairs of which D is said are carried.
pub record Carried (P : Plan) (D : ℕ → Type 0) (rows : List ℕ) : Type 0 where
  pub within : Within P rows
  pub carried : (i : ℕ) → i < P.pairs → D i → (u : ℕ) → (u ≡ P.earlier i) ⊎ Before P u (P.earlier i) → T (marked rows (P.later i) u)

-- The row `from`, and `from` itself, are joined into the row `into`. Nothing else is marked, and no mark is lost.
pub record RowCarried (old new : List ℕ) (from into : ℕ) : Type 0 where
  pub stays : (v u : ℕ) → u < most_events → T (marked old v u) → T (marked new v u)
  pub joins : (u : ℕ) → u < most_events → T (marked old from u) → T (marked new into u)
  pub itself : T (marked new into from)
  pub only : (v u : ℕ) → u < most_events → T (marked new v u) → T (marked old v u) ⊎ ((v ≡ into) × (T (marked old from u) ⊎ (u ≡ from)))

module _ (P : Plan) where
  pub blank_within : (n : ℕ) → Within P (replicate n 0)
  blank_within n = record { only = λ v u l t. absurd (subst T (none_marked n v u) t) }

  -- What is before an event is so by way of a pair to it.
  last_pair : {u v : ℕ} → Before P u v → (i : ℕ) × (i < P.pairs) × (P.later i ≡ v) × ((u ≡ P.earlier i) ⊎ Before P u (P.earlier i))
  last_pair (pair i l) = (i, l, refl, inl refl)
  last_pair (chain {u} {v} {w} b c) =
      let t = last_pair c in (
        t.0,
        t.1,
        t.2,
        inr (⊎_elim (λ (e : v ≡ P.earlier t.0). subst (λ (x : ℕ). Before P u x) e b) (λ d. chain b d) t.3),
      )

  -- Where all pairs to an event are carried, its row marks all that is before it.
  row_whole : {D : ℕ → Type 0} {rows : List ℕ} → Carried P D rows → (v : ℕ) → ((i : ℕ) → i < P.pairs → P.later i ≡ v → D i) → (u : ℕ) → Before P u v → T (marked rows v u)
  row_whole {rows = rows} c v all u b =
      let t = last_pair b in
      subst (λ (w : ℕ). T (marked rows w u)) t.2 (c.carried t.0 t.1 (all t.0 t.1 t.2) u t.3)

  pub carried_start : {D : ℕ → Type 0} {rows : List ℕ} → Within P rows → ((i : ℕ) → i < P.pairs → D i → ⊥) → Carried P D rows
  carried_start within none = record { within = within; carried = λ i l d. absurd (none i l d) }

  pub carried_less : {D E : ℕ → Type 0} {rows : List ℕ} → Carried P D rows → ((i : ℕ) → i < P.pairs → E i → D i) → Carried P E rows
  carried_less c less = record { within = c.within; carried = λ i l e. c.carried i l (less i l e) }

  module _ (named : Named P) (few : P.events ≤ most_events) where
    event_few : {u v : ℕ} → Before P u v → u < most_events
    event_few b = lt_of_lt_of_le (before_events P named b).0 few

    -- One pair more, whose earlier event has all pairs to it carried.
    pub carried_more : {D : ℕ → Type 0} {rows new : List ℕ} (k : ℕ) → Carried P D rows → k < P.pairs → ((i : ℕ) → i < P.pairs → P.later i ≡ P.earlier k → D i)
        → RowCarried rows new (P.earlier k) (P.later k) → Carried P (λ i. (i ≡ k) ⊎ D i) new
    carried_more {D} {rows} {new} k c l whole row = record { within = record { only = only }; carried = all }
      where
        only : (v u : ℕ) → u < most_events → T (marked new v u) → Before P u v
        only v u lu t =
            ⊎_elim
            (c.within.only v u lu)
            (λ at.
            let to_it : Before P u (P.later k) =
            ⊎_elim (λ old. chain (c.within.only (P.earlier k) u lu old) (pair k l)) (λ e. subst (λ (x : ℕ). Before P x (P.later k)) (sym e) (pair k l)) at.1 in
            subst (λ (x : ℕ). Before P u x) (sym at.0) to_it)
            (row.only v u lu t)

        this : (u : ℕ) → (u ≡ P.earlier k) ⊎ Before P u (P.earlier k) → T (marked new (P.later k) u)
        this u b =
            ⊎_elim
            (λ e. subst (λ (x : ℕ). T (marked new (P.later k) x)) (sym e) row.itself)
            (λ d. row.joins u (event_few d) (row_whole c (P.earlier k) whole u d))
            b

        all : (i : ℕ) → i < P.pairs → (i ≡ k) ⊎ D i → (u : ℕ) → (u ≡ P.earlier i) ⊎ Before P u (P.earlier i) → T (marked new (P.later i) u)
        all i li d u b =
            ⊎_elim
            (λ e.
            subst
            (λ (x : ℕ). T (marked new (P.later x) u))
            (sym e)
            (this u (subst (λ (x : ℕ). (u ≡ P.earlier x) ⊎ Before P u (P.earlier x)) e b)))
            (λ old. row.stays (P.later i) u (below b) (c.carried i li old u b))
            d
          where
            below : (u ≡ P.earlier i) ⊎ Before P u (P.earlier i) → u < most_events
            below = ⊎_elim (λ e. subst (λ (x : ℕ). x < most_events) (sym e) (lt_of_lt_of_le (named.earlier i li) few)) event_few

    -- Where all pairs are carried, the rows are those of what is before.
    pub all_carried : {D : ℕ → Type 0} {rows : List ℕ} → Carried P D rows → ((i : ℕ) → i < P.pairs → D i) → Predecessors P rows
    all_carried c all =
        record {
          marks = λ v u lv lu. (c.within.only v u (lt_of_lt_of_le lu few), row_whole c v (λ i l e. all i l) u);
          only = λ v u lu t. (before_events P named (c.within.only v u lu t)).0;
        }
