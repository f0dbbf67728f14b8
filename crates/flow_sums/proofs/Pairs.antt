-- What the test at each pair says of rule 4, and the sums so far.
use Prim.Native.Nat.{ℕ, ◌+◌, ◌<◌}
use native.Mathlib.Omega.{arith}
use mathlib.Core.Bool.{Bool, true, false, not, ◌||◌}
use mathlib.Core.List.{List}
use mathlib.Core.Path.{◌≡◌, refl, sym, ap, ap₂, subst, ◌∙◌}
use borrow.Author.Tests.{not-true, not-false}
use lib.Dec.{eqb}
use lib.ListN.{replicate}
use Rattle.ids.specs.Limits.{most_events}
use Rattle.finite.specs.Bounded.{all}
use Rattle.finite.specs.Search.{all_start, all_more, all_broken}
use Rattle.marks.specs.Marks.{meeting}
use Rattle.plan.specs.Net.{Plan}
use Rattle.plan.specs.Order.{skeleton}
use Rattle.plan.specs.Flow.{Flow, rule4}
use Rattle.sheet.specs.Table.{pairs_of}
use Rattle.sheet.specs.Items.{earlier_at, later_at, plan_of}
use Rattle.sheet.specs.Faultless.{Faultless}
use Rattle.order.specs.Rows.{OrderRows}
use Rattle.order.specs.Laws.{skeleton_marked}
use Rattle.calls.specs.FlowRow.{flow_of}
use Rattle.flow_sums.specs.Sums.{SumRaised, PairSums}
use Rattle.flow_sums.proofs.Adding.{pairs_start, pairs_more}

-- rule 4 at pair i
abbrev rule4_at : Plan → Flow → ℕ → Bool
rule4_at P x i = skeleton P i || eqb (x i) 0

-- The first i pairs keep rule 4, and this is what they carry.
pub record Added (s row : List ℕ) (i : ℕ) (into out : List ℕ) : Type 0 where
  pub rule : all i (rule4_at (plan_of s) (flow_of row)) ≡ true
  pub sums : PairSums (plan_of s) (flow_of row) i into out

pub added_start : (s row : List ℕ) (i : ℕ) (into out : List ℕ) → i ≡ 0 → into ≡ replicate most_events 0 → out ≡ replicate most_events 0 → Added s row i into out
added_start s row i into out first e f = record { rule = rw first (all_start _); sums = pairs_start first e f }

pub added_done : {s row : List ℕ} {i : ℕ} {into out : List ℕ} → Added s row i into out → i ≡ pairs_of s
    → (true ≡ rule4 (plan_of s) (flow_of row)) × PairSums (plan_of s) (flow_of row) (pairs_of s) into out
unfolding rule4
added_done {s} {row} {i} {into} {out} g e = (
  sym (rw e at g.rule),
  subst (λ (m : ℕ). PairSums (plan_of s) (flow_of row) m into out) e g.sums,
)

-- pair i of a faultless sheet with n pairs
module _ {s : List ℕ} (known : Faultless s) (i n : ℕ) {a b : ℕ} (count : n ≡ pairs_of s) (l : i < n) (at_a : a ≡ earlier_at s i) (at_b : b ≡ later_at s i) where
  one : i < pairs_of s
  one = omega arith

  pub within : (a < most_events) × (b < most_events)
  within = (omega (arith, known.earlier i one, known.laid.limited.events), omega (arith, known.later i one, known.laid.limited.events))

  module _ {succ pred : List ℕ} (rows : OrderRows (plan_of s) succ pred) (row : List ℕ) {r : Bool} (told : r ≡ (not (meeting succ a pred b) || eqb (flow_of row i) 0)) where
    at_pair : r ≡ rule4_at (plan_of s) (flow_of row) i
    at_pair =
        told
        ∙ ap₂ (λ (y z : ℕ). not (meeting succ y pred z) || eqb (flow_of row i) 0) at_a at_b
        ∙ ap (λ (y : Bool). y || eqb (flow_of row i) 0) (skeleton_marked s known succ pred rows i one)

    pub pair_broken : not r ≡ true → false ≡ rule4 (plan_of s) (flow_of row)
    unfolding rule4
    pair_broken away = all_broken n _ (rule4_at (plan_of s) (flow_of row)) i count l (sym at_pair ∙ not-true _ away)

    pub pair_more : {into out into' out' : List ℕ} → not r ≡ false → Added s row i into out → SumRaised out out' a (flow_of row i)
        → SumRaised into into' b (flow_of row i) → Added s row (i + 1) into' out'
    pair_more kept g left arrived =
        record {
          rule = all_more _ i g.rule (sym at_pair ∙ not-false _ kept);
          sums = pairs_more g.sums at_a at_b refl left arrived;
        }
