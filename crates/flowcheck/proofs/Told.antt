-- What the tests at each event, of the pairs and of the shares say of the four rules.
use Prim.Native.Nat.{ℕ, ◌+◌, ◌<◌, ◌≤◌}
use mathlib.Core.Bool.{Bool, true, false, not, ◌&&◌, and-true, and-false}
use mathlib.Core.List.{List}
use mathlib.Core.Logic.{◌↔◌}
use mathlib.Core.Path.{◌≡◌, sym, ap₂, ◌∙◌}
use borrow.Author.Tests.{not-true, not-false}
use lib.Dec.{T, leb}
use lib.ListN.{get_or}
use mir.Facts.{and_yes, yes_and}
use Rattle.finite.specs.Bounded.{all, all_yes, yes_all, same}
use Rattle.finite.specs.Search.{all_start, all_more, all_broken, all_done}
use Rattle.plan.specs.Net.{Net, Plan, taken_by, given_by}
use Rattle.plan.specs.Flow.{Flow, shares, inflow, outflow, rule1, rule2, rule3, rule4, valid}
use Rattle.theory.specs.Duality.{rules_pass, passes_rules}
use Rattle.sheet.specs.Table.{events_of, pairs_of}
use Rattle.sheet.specs.Items.{label_at, takes_at, gives_at, opening_at, net_of, plan_of}
use Rattle.calls.specs.FlowRow.{flow_of}
use Rattle.flowcheck.specs.Kept.{kept, kept_at, balanced, kept_holds}
use Rattle.flow_sums.specs.Sums.{shares_of, PairSums}

pub kept_rules : (N : Net) (P : Plan) (p : ℕ) (x : Flow) → all P.events (kept_at N P p x) ≡ (rule1 N P p x && rule2 N P p x)
kept_rules N P p x = same (all P.events (kept_at N P p x)) (rule1 N P p x && rule2 N P p x) to from
  where
    at : (v : ℕ) → T (kept_at N P p x v) ↔ ((taken_by N P p v ≤ inflow P x v) × (outflow P x v + taken_by N P p v ≤ inflow P x v + given_by N P p v))
    at v = kept_holds (taken_by N P p v) (given_by N P p v) (inflow P x v) (outflow P x v)

    to : T (all P.events (kept_at N P p x)) → T (rule1 N P p x && rule2 N P p x)
    to t =
        let each = all_yes P.events (kept_at N P p x) t in
        let both = passes_rules N P p x (record { fed = λ v l. ((at v).0 (each v l)).0; kept = λ v l. ((at v).0 (each v l)).1 }) in
        yes_and (rule1 N P p x) (rule2 N P p x) both.0 both.1

    from : T (rule1 N P p x && rule2 N P p x) → T (all P.events (kept_at N P p x))
    from t =
        let both = and_yes (rule1 N P p x) (rule2 N P p x) t in
        let passes = rules_pass N P p x both.0 both.1 in
        yes_all P.events (kept_at N P p x) (λ v l. (at v).1 (passes.fed v l, passes.kept v l))

-- what is told of event v of a sheet, and of those before it
module _ (s : List ℕ) (p : ℕ) (row : List ℕ) where
  pub kept_told : {into out : List ℕ} → PairSums (plan_of s) (flow_of row) (pairs_of s) into out
      → (v pairs t taken given w : ℕ) (r : Bool) → pairs ≡ pairs_of s → t ≡ label_at s v → taken ≡ takes_at s t p → given ≡ gives_at s t p
      → w ≡ get_or row (pairs + v) 0 → r ≡ kept taken given (w + get_or into v 0) (get_or out v 0)
      → r ≡ kept_at (net_of s) (plan_of s) p (flow_of row) v
  unfolding inflow outflow
  kept_told g v pairs t taken given w r e name takes gives shared told =
      told ∙ simp (takes, gives, name, shared, e, g.arrive.value v, g.leave.value v)

  pub kept_start : (v : ℕ) → v ≡ 0 → all v (kept_at (net_of s) (plan_of s) p (flow_of row)) ≡ true
  kept_start v first = rw first (all_start _)

  pub kept_broken : (v n : ℕ) (r : Bool) → n ≡ events_of s → v < n → r ≡ kept_at (net_of s) (plan_of s) p (flow_of row) v → not r ≡ true
      → false ≡ balanced (net_of s) (plan_of s) p (flow_of row)
  kept_broken v n r e l is away = all_broken _ _ _ v e l (sym is ∙ not-true _ away) ∙ kept_rules _ _ _ _

  pub kept_more : (v : ℕ) (r : Bool) → r ≡ kept_at (net_of s) (plan_of s) p (flow_of row) v → not r ≡ false
      → all v (kept_at (net_of s) (plan_of s) p (flow_of row)) ≡ true → all (v + 1) (kept_at (net_of s) (plan_of s) p (flow_of row)) ≡ true
  kept_more v r is holds so_far = all_more _ v so_far (sym is ∙ not-false _ holds)

  pub kept_done : (v n : ℕ) → n ≡ events_of s → v ≤ n → n ≤ v → all v (kept_at (net_of s) (plan_of s) p (flow_of row)) ≡ true
      → true ≡ balanced (net_of s) (plan_of s) p (flow_of row)
  kept_done v n e l k so_far = all_done n _ _ v e l k so_far ∙ kept_rules _ _ _ _

-- The answers one after another: that a rule is broken is told by `not r`.
module _ (s : List ℕ) (p : ℕ) (row : List ℕ) {r4 : Bool} (is4 : r4 ≡ rule4 (plan_of s) (flow_of row)) where
  pub breaks_4 : not r4 ≡ true → false ≡ valid (net_of s) (plan_of s) p (flow_of row)
  unfolding valid
  breaks_4 away = simp (sym is4 ∙ not-true _ away, and-false)

  module _ {pairs events total o : ℕ} {r3 : Bool} (e : pairs ≡ pairs_of s) (f : events ≡ events_of s) (sum : total ≡ shares_of row pairs events)
      (read : o ≡ opening_at s p) (told : r3 ≡ leb total o) where
    is3 : r3 ≡ rule3 (net_of s) (plan_of s) p (flow_of row)
    unfolding rule3 shares shares_of
    is3 = told ∙ ap₂ leb (sum ∙ ap₂ (shares_of row) e f) read

    pub breaks_3 : not r3 ≡ true → false ≡ valid (net_of s) (plan_of s) p (flow_of row)
    unfolding valid
    breaks_3 away = simp (sym is3 ∙ not-true _ away, and-false)

    pub rest_decides : {r : Bool} → not r4 ≡ false → not r3 ≡ false → r ≡ balanced (net_of s) (plan_of s) p (flow_of row)
        → r ≡ valid (net_of s) (plan_of s) p (flow_of row)
    unfolding valid
    rest_decides kept4 kept3 rest = rest ∙ simp (sym is4 ∙ not-false _ kept4, sym is3 ∙ not-false _ kept3, and-true)
