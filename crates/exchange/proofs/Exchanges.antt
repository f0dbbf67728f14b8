-- Giving back tokens of one giver and drawing as many from another is an exchange.
use Prim.Native.Nat.{ℕ, ◌+◌, ◌*◌, ◌≤◌, ◌<◌, min}
use native.Mathlib.Omega.{arith}
use mathlib.Core.List.{List}
use mathlib.Core.Logic.{⊎_elim}
use mathlib.Core.Path.{◌≡◌, refl, sym, ap, ◌∙◌}
use lib.Dec.{T, T_not, eqb, eqb→eq}
use lib.ListN.{get_or}
use mir.Facts.{yes_eqb}
use Rattle.finite.specs.Bounded.{decide}
use Rattle.finite.specs.Sum.{on_yes, on_no, on_le}
use Rattle.marks.specs.Marks.{marked}
use Rattle.tokenflow.specs.Rows.{Rows, Drawn, Exact, MayDraw}
use Rattle.tokenflow.specs.Flowing.{Flowing, kept_then, kept_back, drawn_keeps, drawn_flows, given_back_flows, drawn_lacking, may_draw}
use Rattle.exchange.specs.Exchange.{Exchanged}

-- v has given back k of the tokens that it fed to w.
module _ {n : ℕ} {pred : List ℕ} {r m : Rows} {u w v k : ℕ} (f : Flowing n pred r) (lu : u < n) (lw : w < n) (lv : v < n)
    (exact : Exact r.amount r.fed → Exact m.amount m.fed) (back : Drawn m r v w k) where
  middle : Flowing n pred m
  middle = given_back_flows back f lv lw (exact f.exact)

  -- u may feed w with them
  pub may : k ≤ get_or r.free u 0 → MayDraw m u w k
  may h =
      may_draw
      middle
      lu
      lw
      (omega (arith, back.spent.less u))
      (omega (arith, back.covered.less w, on_yes (eqb w w) k (yes_eqb {a = w} {b = w} refl)))

  pub exchanged_some : {r' : Rows} → Drawn m r' u w k → T (marked pred w u) → ¬ (k ≡ 0) → k ≡ min (get_or r.free u 0) (get_or r.amount (v * 256 + w) 0)
      → Exchanged n pred r r' u w v k
  exchanged_some {r'} d before some most =
      let lackedBack = drawn_lacking f.events back lw in
      let lacked = drawn_lacking f.events d lw in
      record {
        most = most;
        moved = record {
          size = d.raised.size ∙ sym back.raised.size;
          flows = drawn_flows d middle (omega arith) lu lw before;
          kept = kept_then (kept_back (drawn_keeps f.events back lv lw)) (drawn_keeps f.events d lu lw);
          lacks = omega (arith, lackedBack, lacked);
        };
        same = omega (arith, lackedBack, lacked);
        freed = λ _. freed_now;
        shares = λ b. omega (arith, back.covered.less b, d.covered.less b);
        others = λ a b l ne t. d.raised.kept a b l (⊎_elim (λ y. y) (λ e. absurd (ne e.1)) (back.raised.added a b l t));
      }
    where
      freed_now : 0 < get_or r'.free v 0
      freed_now =
          ⊎_elim
          (λ t.
          omega (arith, back.spent.less v, d.spent.less v, on_yes (eqb v v) k (yes_eqb {a = v} {b = v} refl), on_le (eqb u v) k, ap (λ (z : ℕ). get_or r.free z 0) (eqb→eq u v t), most))
          (λ t. omega (arith, back.spent.less v, d.spent.less v, on_yes (eqb v v) k (yes_eqb {a = v} {b = v} refl), on_no (eqb u v) k (T_not (eqb u v) t), some))
          (decide (eqb u v))
