-- From the pairs of a sheet in rows to its order: the plan in the rows has the sheet's pairs, so it has its cycles and its order.
use Prim.Native.Nat.{ℕ, ◌<◌}
use native.Mathlib.Omega.{arith}
use mathlib.Core.Bool.{Bool}
use mathlib.Core.List.{List}
use mathlib.Core.Option.{none}
use mathlib.Core.Path.{◌≡◌, refl, sym, ap, ◌∙◌}
use mathlib.Core.Logic.{◌↔◌}
use lib.Dec.{T}
use Rattle.closure.specs.Carried.{Within, blank_within}
use Rattle.sorting.specs.Turned.{turned}
use Rattle.closure.proofs.Turned.{turned_rows, pairs_within}
use Rattle.closure.specs.PlanRows.{Says, PairRows, Predecessors}
use Rattle.finite.specs.Bounded.{any, any_ext}
use Rattle.ids.specs.Limits.{rows_words}
use Rattle.plan.specs.Compare.{SamePairs}
use Rattle.plan.specs.Net.{Plan}
use Rattle.plan.specs.OnlyPairs.{pairs_before}
use Rattle.plan.proofs.OnlyPairs.{before_same}
use Rattle.plan.specs.Order.{Before, before}
use Rattle.sheet.specs.Table.{events_of, pairs_of}
use Rattle.sheet.specs.Items.{plan_of}
use Rattle.sheet.specs.Faults.{no_event, repeated, cycle_at, cyclic, order_faults, first_fault}
use Rattle.sheet.specs.Laid.{Laid}
use Rattle.sheet.specs.Faultless.{ends}
use Rattle.sheet.specs.Told.{no_fault, tell, plain, or_else, else_last, Told}
use Rattle.sheet.specs.Chain.{here, later}
use Rattle.sorting.specs.Rows.{plan_by, PlanInRows, has_cycle}
use Rattle.order.specs.Rows.{Blank, PairsHeld, wants_after, wants_ahead, WantedRows}
use Rattle.order.specs.declared.Wanted.{Wanted}

-- the fault that is told, by what each test said
module _ (s : List ℕ) where
  rest : first_fault order_faults s ≡ or_else (tell 10 (repeated s)) (or_else (tell 11 (plain (cyclic s))) no_fault)
  unfolding order_faults first_fault
  rest = refl

  pub fault_10 : {r : Told} → r ≡ tell 10 (repeated s) → ¬ (r.number ≡ 0) → r ≡ first_fault order_faults s
  fault_10 is there = here _ rest is there

  pub fault_11 : no_fault ≡ tell 10 (repeated s) → {r : Told} → r ≡ tell 11 (plain (cyclic s)) → r ≡ first_fault order_faults s
  fault_11 clear is = is ∙ sym (later _ rest clear refl ∙ else_last 11 _ (omega arith))

module _ (s : List ℕ) (known : Laid s) (all : no_event s ≡ none) {succ from to : List ℕ} (held : PairsHeld (plan_of s) (pairs_of s) succ from to) {n m : ℕ} (events : n ≡ events_of s) (pairs : m ≡ pairs_of s) where
  abbrev P : Plan
  P = plan_by n m from to

  same_pairs : SamePairs P (plan_of s)
  same_pairs =
      record {
        pairs = pairs;
        earlier = λ i h. held.earlier i (omega (arith, h, pairs));
        later = λ i h. held.later i (omega (arith, h, pairs));
      }

  pub in_rows : PlanInRows n m from to
  in_rows =
      record {
        few = omega (arith, events, known.limited.events);
        most = omega (arith, pairs, known.limited.pairs);
        named =
            record {
              earlier = λ i h. let k : i < pairs_of s = omega (arith, h, pairs) in omega (arith, held.earlier i k, (ends s all i k).0, events);
              later = λ i h. let k : i < pairs_of s = omega (arith, h, pairs) in omega (arith, held.later i k, (ends s all i k).1, events);
            };
      }

  -- it has a cycle exactly if the sheet's order has one
  pub cycle_found : has_cycle P ≡ cyclic s
  unfolding cyclic cycle_at has_cycle
  cycle_found =
      any_ext n (λ v. before P v v) (λ v. before (plan_of s) v v) (λ v h. before_same P (plan_of s) (pairs_before P (plan_of s) same_pairs) v v)
      ∙ ap (λ (k : ℕ). any k (λ v. before (plan_of s) v v)) events

  -- where no pair is a repeat, the fault that the cycles of the plan in the rows tell
  pub cycle_told : no_fault ≡ tell 10 (repeated s) → {r : Told} → r ≡ tell 11 (plain (has_cycle P)) → r ≡ first_fault order_faults s
  cycle_told clear is = fault_11 s clear (is ∙ ap (λ (b : Bool). tell 11 (plain b)) cycle_found)

  -- the rows of the pairs mark no more than what is after, and blank ones no more than what is before
  pub after_within : Within (turned P) succ
  after_within =
      let marks : PairRows (plan_of s) (plan_of s).pairs succ = held.marks in
      record { only = λ v u h t. (pairs_before (turned P) (turned (plan_of s)) turned_pairs u v).1 ((pairs_within (plan_of s) succ marks).only v u h t) }
    where
      turned_pairs : SamePairs (turned P) (turned (plan_of s))
      turned_pairs = record { pairs = same_pairs.pairs; earlier = same_pairs.later; later = same_pairs.earlier }

  pub ahead_within : {pred : List ℕ} → Blank pred → Within P pred
  ahead_within e = rw e (blank_within P rows_words)

  -- rows of the order of the plan in the rows are those of the sheet's
  pub wanted_rows : {w : Wanted} {succ' pred' : List ℕ} → (T (wants_after w) → Predecessors (turned P) succ') → (T (wants_ahead w) → Predecessors P pred')
      → WantedRows w (plan_of s) succ' pred'
  wanted_rows after ahead =
      record {
        after = λ t. same_rows (Before P) (Before (plan_of s)) order (turned_rows P _ (after t));
        ahead = λ t. same_rows (λ u v. Before P v u) (λ u v. Before (plan_of s) v u) (λ u v. order v u) (ahead t);
      }
    where
      order : (u v : ℕ) → Before P u v ↔ Before (plan_of s) u v
      order = pairs_before P (plan_of s) same_pairs

      same_rows : (B C : ℕ → ℕ → Type 0) → ((u v : ℕ) → B u v ↔ C u v) → {rows : List ℕ} → Says n B rows → Says (events_of s) C rows
      same_rows B C both g =
          record {
            marks = λ u v lu lv.
                let is = g.marks u v (omega (arith, lu, events)) (omega (arith, lv, events)) in
                (λ t. (both u v).0 (is.0 t), λ b. is.1 ((both u v).1 b));
            only = λ u v h t. omega (arith, g.only u v h t, events);
          }
