-- A ready giver is never stuck, and after an exchange the next one is ready.
use Prim.Native.Nat.{ℕ, ◌+◌, ◌*◌, ◌<◌}
use native.Mathlib.Omega.{arith}
use mathlib.Core.List.{List}
use mathlib.Core.Logic.{inl, inr, ⊎_elim}
use mathlib.Core.Path.{◌≡◌, refl, sym, subst}
use lib.ListN.{get_or}
use Rattle.finite.specs.Sum.{on_yes}
use Rattle.marks.specs.Marks.{marked}
use Rattle.tokenflow.specs.Rows.{fed_by, Rows}
use Rattle.tokenflow.specs.Flowing.{Flowing}
use Rattle.search.specs.Trail.{◌!◌, Takers, Givers, takers_of, givers_of, FedBy, MetBy}
use Rattle.exchange.specs.Exchange.{Exchanged}
use Rattle.exchange.specs.Walk.{trail_rows, IsReady, Unready, ReadyOn, NextGiver}

module _ {n : ℕ} {pred queue origin via : List ℕ} {r : Rows} {u : ℕ} {row : List ℕ} {tail : ℕ} {met : List ℕ}
    (h : IsReady n pred (trail_rows queue origin via) r u row tail met) where
  t : Takers
  t = takers_of row queue origin tail

  g : Givers
  g = givers_of met via

  way : MetBy pred t g u
  unfolding t g
  way = h.0.met u h.1.giver

  -- at the place by way of which u was met, a taker that lacks nothing
  module _ (at : ℕ) (here : at ≡ via ! u) (none : get_or r.share (queue ! at) 0 ≡ 0) where
    fed_there : FedBy r.fed (takers_of row queue origin tail) (givers_of met via) at
    fed_there = ⊎_elim (λ l. absurd (omega arith)) (λ f. f) (h.1.reason at (omega arith))

    pub has_next : NextGiver n origin via r.fed at (queue ! at) (origin ! at)
    has_next =
        record { here = refl; names = h.0.givers (origin ! at) fed_there.giver; earlier = fed_there.earlier; feeds = fed_there.feeds }

    -- after an exchange there, the origin is ready
    origin_ready : (r' : Rows) (k : ℕ) → Flowing n pred r → Exchanged n pred r r' u (queue ! at) (origin ! at) k
        → IsReady n pred (trail_rows queue origin via) r' (origin ! at) row tail met
    unfolding t g fed_by
    origin_ready r' k f x =
        let w : ℕ = queue ! at in
        let v : ℕ = origin ! at in
        let o = fed_there in
        let placed : at < tail = omega (arith, way.place) in
        let full = f.exact.flows v w (omega (arith, has_next.names, f.events)) (omega (arith, h.0.takers at placed, f.events)) o.feeds in
        let some : 0 < k = omega (arith, x.most, h.1.free, full, on_yes (marked r.fed v w) (get_or r.amount (v * 256 + w) 0) o.feeds) in (
          h.0,
          record {
            giver = o.giver;
            free = x.freed some;
            reason = λ i l.
                let low : i < at = omega (arith, o.earlier) in
                ⊎_elim
                (λ s. inl (omega (arith, x.shares (queue ! i))))
                (λ b.
                let taker : queue ! i < 256 = omega (arith, h.0.takers i (omega arith), f.events) in
                inr (record { giver = b.giver; feeds = x.others (origin ! i) (queue ! i) taker (h.0.once i at low placed) b.feeds; earlier = b.earlier }))
                (h.1.reason i (omega arith));
          },
        )

    pub next_ready : (v : ℕ) → v ≡ origin ! at → (r' : Rows) (k : ℕ) → Flowing n pred r → Exchanged n pred r r' u (queue ! at) v k
        → IsReady n pred (trail_rows queue origin via) r' v row tail met
    next_ready v e r' k f =
        subst (λ (z : ℕ). Exchanged n pred r r' u (queue ! at) z k → IsReady n pred (trail_rows queue origin via) r' z row tail met) (sym e) (origin_ready r' k f)

-- where the giver at hand isn't ready, the first one wasn't
pub never_ready : (n : ℕ) (pred queue origin via : List ℕ) (r r' : Rows) (u v : ℕ) → ReadyOn n pred (trail_rows queue origin via) r r' u v
    → Unready n pred (trail_rows queue origin via) r' v → Unready n pred (trail_rows queue origin via) r u
never_ready n pred queue origin via r r' u v on not row tail met h = not row tail met (on row tail met h)
