-- Number after number: the sums so far, at each event and of the shares.
use Prim.Native.Nat.{ℕ, ◌+◌, ◌<◌, ◌≤◌}
use native.Mathlib.Omega.{arith}
use mathlib.Core.List.{List}
use mathlib.Core.Path.{◌≡◌, sym, ap, ◌∙◌}
use lib.Dec.{eqb}
use lib.ListN.{length, get_or, set, replicate}
use Rattle.ids.specs.Limits.{most_events}
use Rattle.finite.specs.Row.{zeros, raised_at}
use Rattle.finite.specs.Sum.{on, at_end, on_le, end_start, end_more}
use Rattle.plan.specs.Net.{Plan}
use Rattle.plan.specs.Flow.{Flow}
use Rattle.flow_sums.specs.Sums.{most_number, SumRaised, Sums, PairSums}

-- one sum with one number more
pub sum_raised : (sums : List ℕ) (v x y : ℕ) → v < length sums → y ≡ x → y ≤ most_number → SumRaised sums (set sums v (get_or sums v 0 + y)) v x
sum_raised sums v x y l e small =
    record { small = omega arith; sums = λ w. raised_at sums v y l w ∙ ap (λ (z : ℕ). get_or sums w 0 + on (eqb v w) z) e }

module _ (e : ℕ → ℕ) (x : Flow) (m : ℕ) where
  sums_start : (sums : List ℕ) → m ≡ 0 → sums ≡ replicate most_events 0 → Sums (at_end m e x) m sums
  sums_start sums first blank =
      record { value = λ v. none v ∙ rw first (sym (end_start e x v)); most = λ v. omega (arith, none v) }
    where
      none : (v : ℕ) → get_or sums v 0 ≡ 0
      none v = ap (λ (l : List ℕ). get_or l v 0) blank ∙ zeros most_events v

  sums_more : (sums new : List ℕ) (v k : ℕ) → Sums (at_end m e x) m sums → v ≡ e m → k ≡ x m → SumRaised sums new v k
      → Sums (at_end (m + 1) e x) (m + 1) new
  sums_more sums new v k g at is r =
      record {
        value = λ w. r.sums w ∙ rw (at, is) (ap (λ (y : ℕ). y + on (eqb (e m) w) (x m)) (g.value w)) ∙ sym (end_more m e x w);
        most = λ w. omega (arith, r.small, r.sums w, g.most w, on_le (eqb v w) k);
      }

module _ {P : Plan} {x : Flow} {m : ℕ} {into out : List ℕ} where
  pub pairs_start : m ≡ 0 → into ≡ replicate most_events 0 → out ≡ replicate most_events 0 → PairSums P x m into out
  pairs_start first e f = record { arrive = sums_start P.later x m into first e; leave = sums_start P.earlier x m out first f }

  pub pairs_more : {into' out' : List ℕ} {a b k : ℕ} → PairSums P x m into out → a ≡ P.earlier m → b ≡ P.later m → k ≡ x m
      → SumRaised out out' a k → SumRaised into into' b k → PairSums P x (m + 1) into' out'
  pairs_more g at_a at_b is left arrived =
      record {
        arrive = sums_more P.later x m into _ _ _ g.arrive at_b is arrived;
        leave = sums_more P.earlier x m out _ _ _ g.leave at_a is left;
      }
