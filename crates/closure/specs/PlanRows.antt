-- Rows of marks for a plan: of its pairs, of what is after and of what is before each event; skeleton pairs by them.
use Rattle.std.specs.Prelude.{ℕ, ◌+◌, ◌≤◌, ◌<◌, Bool, ◌&&◌, ◌||◌, List, ◌↔◌, ◌≡◌, T, eqb, replicate}
use Rattle.std.proofs.Common.{add-one, sym, ◌∙◌}
use Rattle.std.proofs.Math.Bool.{not}
use Rattle.std.proofs.Math.Path.{ap}
use Rattle.ids.specs.Limits.{most_events}
use Rattle.finite.specs.Bounded.{any}
use Rattle.plan.specs.Net.{Plan}
use Rattle.plan.specs.Order.{Before, before, skeleton, Named}
use Rattle.plan.proofs.Closure.{says_before}
use Rattle.marks.specs.Marks.{marked, meeting, none_marked, MarkAdded}
use Rattle.closure.specs.Between.{meeting_between}
use Rattle.closure.specs.Ordered.{is_pair}

-- The marks are those of R.
pub record Marks (R : ℕ → ℕ → Bool) (rows : List ℕ) : Type 0 where
  pub marks : (u v : ℕ) → v < most_events → marked rows u v ≡ R u v

-- The first m pairs are marked, (u, v) at row u.
abbrev pub PairRows : Plan → ℕ → List ℕ → Type 0
PairRows P m = Marks (is_pair P m)

-- The first n rows mark the numbers below n that C says, and no others.
pub record Says (n : ℕ) (C : ℕ → ℕ → Type 0) (rows : List ℕ) : Type 0 where
  pub marks : (u v : ℕ) → u < n → v < n → T (marked rows u v) ↔ C u v
  pub only : (u v : ℕ) → v < most_events → T (marked rows u v) → v < n

-- An event's row marks what is after it; what is before it.
abbrev pub Successors : Plan → List ℕ → Type 0
Successors P = Says P.events (Before P)

abbrev pub Predecessors : Plan → List ℕ → Type 0
Predecessors P = Says P.events (λ u v. Before P v u)

pub pairs_start : (P : Plan) (n : ℕ) → PairRows P 0 (replicate n 0)
unfolding is_pair any
pairs_start P n = record { marks = λ u v h. none_marked n u v }

pair_more : (P : Plan) (m u v : ℕ) → (is_pair P m u v || (eqb u (P.earlier m) && eqb v (P.later m))) ≡ is_pair P (m + 1) u v
unfolding is_pair any
pair_more P m u v = ap (λ (k : ℕ). is_pair P k u v) (sym (add-one m))

pub pairs_more : (P : Plan) (m : ℕ) (old new : List ℕ) → PairRows P m old → MarkAdded old new (P.earlier m) (P.later m)
    → PairRows P (m + 1) new
pairs_more P m old new g a =
    record {
      marks = λ u v h.
          a.marks u v h ∙ ap (λ (x : Bool). x || (eqb u (P.earlier m) && eqb v (P.later m))) (g.marks u v h)
          ∙ pair_more P m u v;
    }

module _ (P : Plan) (named : Named P) (succ : List ℕ) (after : Successors P succ) where
  -- That nothing is marked in common says that a pair is a skeleton pair.
  pub skeleton_rows : (pred : List ℕ) → Predecessors P pred → P.events ≤ most_events → (i : ℕ) → i < P.pairs
      → not (meeting succ (P.earlier i) pred (P.later i)) ≡ skeleton P i
  unfolding skeleton
  skeleton_rows pred ahead few i l =
      let a = P.earlier i in
      let b = P.later i in
      let ha = named.earlier i l in
      let hb = named.later i l in
      ap
      not
      (meeting_between
      P.events
      succ
      pred
      (before P)
      a
      b
      few
      (λ w h. says_before P (marked succ a w) a w (after.marks a w ha h))
      (λ w h. says_before P (marked pred b w) w b (ahead.marks b w hb h))
      (λ w h t. after.only a w h t))
