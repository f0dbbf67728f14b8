-- What the counts of a sheet's places say of its listing.
use Prim.Native.Nat.{ℕ, ◌-◌, ◌<◌}
use native.Mathlib.Omega.{arith}
use mathlib.Core.List.{List, ◌++◌}
use mathlib.Core.Option.{Option, none, some}
use Rattle.std.specs.Prelude as may
use Rattle.std.specs.Prelude.{None, Some}
use Rattle.std.specs.Option.{unwrap_or}
use Rattle.plan.specs.Prefix.{smallest}
use mathlib.Core.Path.{◌≡◌, refl, ap, ◌∙◌}
use lib.ListN.{get_or}
use Rattle.finite.specs.Each.{each}
use Rattle.finite.specs.Filled.{Filled}
use Rattle.plan.specs.Order.{free_count}
use Rattle.sheet.specs.Table.{places_of, events_of, pairs_of}
use Rattle.sheet.specs.Items.{opening_at, net_of, plan_of}
use Rattle.sheet.specs.Faultless.{Faultless, sound}
use Rattle.place.specs.Place.{missing_at, least_at}
use Rattle.theory.specs.Missing.{missing_opening}
use Rattle.search.specs.Row.{members}
use Rattle.summary.specs.declared.Verdict.{Verdict}
use Rattle.summary.specs.declared.Verdict.TheVariants.{Runs, Short}
use Rattle.summary.specs.Summary.{total_missing, short_places, first_short, short_number, verdict_number, VerdictOf, PlanValues, values_in, values_of, count_at, MissingCounts}
use Rattle.summary.specs.Laws.{VerdictSays, IsFirst}
use Rattle.summary.proofs.Laws.{verdict_says, verdict_fits}
use Rattle.summary.specs.declared.Totals.{Totals}
use Rattle.place_counts.specs.First.{FirstTo}
use Rattle.plan_judgement.specs.CountsInRow.{small_counts, row_values}
use Rattle.closure.specs.PlanRows.{Predecessors}
use Rattle.free_pairs.specs.FreeRows.{OrderIn}
use Rattle.lines.specs.Listing.{plan_line, totals_line, last_line, short_line, line_of, count_lines, lines_of}
use Rattle.lines.specs.LeastRow.{LeastRow}

-- what the counts in a row come to
pub record Told (s : List ℕ) (t : Totals) : Type 0 where
  pub total : t.total ≡ total_missing (missing_at s) (places_of s)
  pub short : t.short ≡ short_places (missing_at s) (places_of s)
  pub verdict : VerdictOf (missing_at s) (places_of s) t.verdict

-- a short verdict's place is one of the net
pub few_places : (s : List ℕ) → Faultless s → (t : Totals) → Told s t → verdict_number t.verdict < 1064
few_places s known t all =
    omega (arith, all.verdict.0, verdict_fits (missing_at s) (places_of s), known.laid.limited.places)

-- the marks that stand for the done set of the first short place
set_by : (s zeros : List ℕ) (f : may.Option (List ℕ)) → FirstTo s (places_of s) f → (p : ℕ) → p < places_of s → IsFirst (missing_at s) p
    → smallest (net_of s) (plan_of s) p ≡ members (unwrap_or f zeros)
set_by s zeros None first p l h = absurd (omega (arith, first.none refl p l, h.short))
set_by s zeros (Some done) first p l h = first.set done refl p l h

-- the last line, from the verdict and those marks
last_by : (s zeros : List ℕ) (f : may.Option (List ℕ)) (v : Verdict) (o : Option ℕ) → FirstTo s (places_of s) f → VerdictSays (missing_at s) (places_of s) v
    → verdict_number v ≡ short_number o → short_line (net_of s) (plan_of s) o ≡ last_line v (events_of s) (members (unwrap_or f zeros))
unfolding short_line last_line
last_by s zeros f Runs none first says number = refl
last_by s zeros f Runs (some q) first says number = absurd (omega arith)
last_by s zeros f (Short p m) none first says number = absurd (omega arith)
last_by s zeros f (Short p m) (some q) first says number =
    let same : q ≡ p.0 = omega arith in
    rw (same, set_by s zeros f first p.0 says.0.0 says.0.1)

module _ (s : List ℕ) (known : Faultless s) where
  -- the order of the sheet's plan is in the row that its examination has filled
  pub order_in : (pred : List ℕ) → Predecessors (plan_of s) pred → OrderIn (plan_of s) pred (events_of s)
  order_in pred rows = record { sound = sound s known; events = refl; before = rows }

  pub counts_are : (events pairs r short total : ℕ) → events ≡ events_of s → pairs ≡ pairs_of s → r ≡ free_count (plan_of s) → short ≡ short_places (missing_at s) (places_of s)
      → total ≡ total_missing (missing_at s) (places_of s)
      → count_lines (net_of s) (plan_of s) ≡ plan_line events pairs r ++ each (places_of s) (line_of (net_of s) (plan_of s)) ++ totals_line short total
  unfolding count_lines
  counts_are events pairs r short total e i free h t = rw (e, i, free, h, t) refl

  pub least_row : (old least : List ℕ) → Filled (least_at s) (places_of s) old least → LeastRow s least
  least_row old least counted = record { counts = counted.numbers }

  -- what the least opening counts are above the opening counts is missing
  module _ (old least zeros new : List ℕ) (counted : Filled (least_at s) (places_of s) old least)
      (above : Filled (λ p. get_or least p 0 - opening_at s p) (places_of s) zeros new) (n : ℕ) (is : n ≡ places_of s) where
    missing : Filled (missing_at s) (places_of s) zeros new
    missing =
        record {
          size = above.size;
          numbers = λ p m. omega (arith, above.numbers p m, counted.numbers p m, missing_opening (net_of s) (plan_of s) p);
          rest = above.rest;
        }

    -- it is small enough to be added up
    pub small : MissingCounts new n
    small = rw is (small_counts s known (places_of s) refl zeros new missing)

    pub told : (t : Totals) → values_in t ≡ values_of (count_at new) n → Told s t
    unfolding values_of
    told t e =
        let all = rw is at e ∙ row_values s known (places_of s) refl zeros new missing in
        record {
          total = ap (λ (v : PlanValues). v.total) all;
          short = ap (λ (v : PlanValues). v.short) all;
          verdict = (ap (λ (v : PlanValues). v.number) all, ap (λ (v : PlanValues). v.count) all);
        }

  -- the lines, from those that tell counts and the last one
  pub lines_are : (zeros done : List ℕ) (f : may.Option (List ℕ)) (v : Verdict) (n : ℕ) → n ≡ events_of s → done ≡ unwrap_or f zeros → FirstTo s (places_of s) f
      → VerdictOf (missing_at s) (places_of s) v → lines_of (net_of s) (plan_of s) ≡ count_lines (net_of s) (plan_of s) ++ last_line v n (members done)
  unfolding lines_of
  lines_are zeros done f v n e marks first told =
      let says = verdict_says (missing_at s) (places_of s) v told in
      rw (e, marks)
      (ap
      (λ (line : List ℕ). count_lines (net_of s) (plan_of s) ++ line)
      (last_by s zeros f v (first_short (missing_at s) (places_of s)) first says told.0))
