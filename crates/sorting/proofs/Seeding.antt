-- Event after event: those that wait for nothing join the queue. Before any pair is gone over, these are the ones without a pair to them.
use Prim.Native.Nat.{ℕ, ◌+◌, ◌≤◌, ◌<◌}
use native.Mathlib.Omega.{arith}
use mathlib.Core.Bool.{◌||◌}
use mathlib.Core.List.{List}
use mathlib.Core.Logic.{⊎_elim}
use mathlib.Core.Path.{◌≡◌, sym, ap, subst, ◌∙◌}
use lib.Dec.{T, eqb, eqb→eq, ltb, ltb→lt}
use lib.ListN.{length, get_or, set}
use mir.Facts.{and_yes, yes_and, or_yes, yes_eqb, yes_ltb}
use Rattle.finite.specs.Bounded.{any_yes, yes_or_left, yes_or_right}
use Rattle.finite.specs.Count.{none_count}
use Rattle.finite.specs.Queue.{Queued, below_next, stored, queued_none, queued_more}
use Rattle.finite.specs.Subset.{Set, empty, insert, set_ext}
use Rattle.ids.specs.Limits.{most_events}
use Rattle.plan.specs.Net.{Plan}
use Rattle.sorting.specs.Sorted.{ready, passed, Round}
use Rattle.sorting.specs.Waiting.{waits_for, Waits}
use Rattle.sorting.proofs.Lowering.{is_waits, waits_same}

-- w is below v and waits for nothing
pub is_ready : (v w : ℕ) (left : List ℕ) → T (ready v left w) → (w < v) × (get_or left w 0 ≡ 0)
is_ready v w left t =
    let parts = and_yes (ltb w v) (eqb (get_or left w 0) 0) t in
    (ltb→lt w v parts.0, eqb→eq (get_or left w 0) 0 parts.1)

yes_ready : (v w : ℕ) (left : List ℕ) → w < v → get_or left w 0 ≡ 0 → T (ready v left w)
yes_ready v w left l e = yes_and (ltb w v) (eqb (get_or left w 0) 0) (yes_ltb l) (yes_eqb e)

pub seed_start : (n : ℕ) (left queue : List ℕ) → Queued n (ready 0 left) queue 0
seed_start n left queue = queued_none n (ready 0 left) queue (λ v t. omega (arith, (is_ready 0 v left t).0))

module _ (n v end : ℕ) (left queue : List ℕ) (q : Queued n (ready v left) queue end) where
  fresh : T (ready v left v) → ⊥
  fresh t = omega (arith, (is_ready v v left t).0)

  pub seed_more : v < n → get_or left v 0 ≡ 0 → end < length queue → Queued n (ready (v + 1) left) (set queue end v) (end + 1)
  seed_more l none fits =
      subst
      (λ (S : Set). Queued n S (set queue end v) (end + 1))
      (set_ext (insert v (ready v left)) (ready (v + 1) left) to from)
      (queued_more q v l fresh (stored queue end v fits))
    where
      to : (w : ℕ) → T (eqb w v || ready v left w) → T (ready (v + 1) left w)
      to w t =
          ⊎_elim
          (λ e. let here : w ≡ v = eqb→eq w v e in rw here (yes_ready (v + 1) v left (omega arith) none))
          (λ old. let is = is_ready v w left old in yes_ready (v + 1) w left (omega (arith, is.0)) is.1)
          (or_yes (eqb w v) (ready v left w) t)

      from : (w : ℕ) → T (ready (v + 1) left w) → T (eqb w v || ready v left w)
      from w t =
          let is = is_ready (v + 1) w left t in
          below_next v w is.0 (λ low. yes_or_right (eqb w v) _ (yes_ready v w left low is.1)) (λ e. yes_or_left (eqb w v) _ (yes_eqb e))

  pub seed_pass : ¬ (get_or left v 0 ≡ 0) → Queued n (ready (v + 1) left) queue end
  seed_pass some = subst (λ (S : Set). Queued n S queue end) (set_ext (ready v left) (ready (v + 1) left) to from) q
    where
      to : (w : ℕ) → T (ready v left w) → T (ready (v + 1) left w)
      to w t = let is = is_ready v w left t in yes_ready (v + 1) w left (omega (arith, is.0)) is.1

      from : (w : ℕ) → T (ready (v + 1) left w) → T (ready v left w)
      from w t =
          let is = is_ready (v + 1) w left t in
          below_next v w is.0 (λ low. yes_ready v w left low is.1) (λ e. absurd (some (ap (λ (x : ℕ). get_or left x 0) (sym e) ∙ is.1)))

pub round_start : (P : Plan) (left queue : List ℕ) (n : ℕ) → P.events ≤ most_events → Waits P empty P.pairs left
    → Queued P.events (ready P.events left) queue n → Round P left queue 0 n
round_start P left queue n few waits q =
    record {
      reached = omega arith;
      waits = waits_same P empty left waits (passed P queue 0) (λ i l g. absurd g) (λ i l g. omega (arith, (any_yes 0 _ g).1));
      queued = q;
      ordered = λ k i h l e.
          let v = get_or queue k 0 in
          let is = is_ready P.events v left (q.listed k h) in
          absurd
          (none_count
          P.pairs
          (waits_for P empty v)
          (sym (waits.counts v (omega (arith, is.0, few))) ∙ is.1)
          i
          l
          (is_waits P empty v i (record { ends = e; stays = λ g. g })));
    }
