-- The kept pairs stand in two rows: these are the pairs of the kept plan, with its cycles, and put after a table to match and what stood before the pairs
-- they are the clean sheet.
use Prim.Native.Nat.{ℕ, ◌+◌, ◌*◌, ◌≤◌, ◌<◌}
use native.Mathlib.Omega.{arith}
use mathlib.Core.List.{List}
use mathlib.Core.Path.{◌≡◌, refl, ap, ap₂, subst, ◌∙◌}
use lib.ListN.{length}
use lib.Seq.{slice}
use Rattle.finite.specs.Bounded.{any, any_ext}
use Rattle.finite.proofs.Chosen.{chosen_length}
use Rattle.finite.specs.Each.{each, each_ext}
use Rattle.finite.specs.Stands.{Bytes}
use Rattle.ids.specs.Limits.{most_pairs}
use Rattle.layout.specs.declared.Layout.{Layout}
use Rattle.layout.specs.Layout.{places_at, pairs_at, LaidBy}
use Rattle.plan.specs.Compare.{SamePairs}
use Rattle.plan.specs.Net.{Plan}
use Rattle.plan.specs.OnlyPairs.{pairs_before}
use Rattle.plan.proofs.OnlyPairs.{before_same}
use Rattle.plan.specs.Order.{before}
use Rattle.reasons.specs.declared.KeptPairs.{KeptPairs}
use Rattle.reasons.specs.KeptRows.{KeptOf}
use Rattle.reasons.proofs.Laws.{kept_ends}
use Rattle.reasons.specs.Reasons.{kept, kept_plan, kept_count, kept_cycle}
use Rattle.sheet.specs.Items.{net_of, plan_of}
use Rattle.sheet.specs.Laid.{Laid}
use Rattle.sheet.specs.Table.{table_length, events_of, pairs_of}
use Rattle.sorting.specs.Rows.{plan_by, PlanInRows, has_cycle}
use Rattle.text.specs.Put.{Put, put_then, put_says}
use Rattle.writer.proofs.WriteBack.{bodies_part}
use Rattle.writer.specs.Written.{layout_for, layout_of, table, pair_bytes, order_bytes, label_bytes, body_bytes, bytes_of}
use Rattle.kept_pairs.specs.Clean.{clean_of}
use Rattle.kept_pairs.specs.PairsKnown.{Events, rows_bytes}

-- the numbers of items are such as a sheet may have
pub kept_most : (s : List ℕ) → Laid s → kept_count s ≤ most_pairs
kept_most s known = omega (arith, chosen_length (kept s) (pairs_of s), known.limited.pairs)

-- The rows are of the kept plan.
module _ (s : List ℕ) (known : Laid s) (pairs : KeptPairs) (of : KeptOf s pairs) where
  module _ (events : ℕ) (told : events ≡ events_of s) where
    abbrev P : Plan
    P = plan_by events pairs.count pairs.from pairs.to

    same_pairs : SamePairs P (kept_plan s)
    same_pairs =
        record {
          pairs = of.count;
          earlier = λ k h. of.holds.earlier k (omega (arith, of.count));
          later = λ k h. of.holds.later k (omega (arith, of.count));
        }

    pub kept_within : PlanInRows events pairs.count pairs.from pairs.to
    kept_within =
        record {
          few = omega (arith, told, known.limited.events);
          most = omega (arith, of.count, kept_most s known);
          named = record {
            earlier = λ k h. let there : k < kept_count s = omega (arith, of.count) in omega (arith, of.holds.earlier k there, (kept_ends s k there).0, told);
            later = λ k h. let there : k < kept_count s = omega (arith, of.count) in omega (arith, of.holds.later k there, (kept_ends s k there).1, told);
          };
        }

    pub kept_cycle_lem : has_cycle P ≡ kept_cycle s
    unfolding has_cycle kept_cycle
    kept_cycle_lem =
        ap (λ (n : ℕ). any n (λ v. before P v v)) told
        ∙ any_ext (events_of s) (λ v. before P v v) (λ v. before (kept_plan s) v v) (λ v h.
        before_same P (kept_plan s) (pairs_before P (kept_plan s) same_pairs) v v)

  pub kept_events : Events pairs.count pairs.from × Events pairs.count pairs.to
  kept_events =
      let within = kept_within (events_of s) refl in (
        λ k h. omega (arith, within.named.earlier k h, within.few),
        λ k h. omega (arith, within.named.later k h, within.few),
      )

  kept_order : each pairs.count (rows_bytes pairs.from pairs.to) ≡ order_bytes (kept_plan s)
  unfolding order_bytes
  kept_order =
      ap (λ (n : ℕ). each n (rows_bytes pairs.from pairs.to)) of.count
      ∙ each_ext (kept_count s) _ _ (λ k h. ap₂ pair_bytes (of.holds.earlier k h) (of.holds.later k h))

-- after the table and what stands before the pairs there is room for all given pairs
pub pairs_room : (s : List ℕ) (l : Layout) → LaidBy s l → (at end have : ℕ) → at ≡ table_length → end + places_at l ≡ at + pairs_at l → length s ≤ have
    → (count : ℕ) → count ≡ kept_count s → end + 4 * count ≤ have
pairs_room s l known at end have table part room count counted =
    omega (arith, counted, chosen_length (kept s) (pairs_of s), known.0.end, known.1.pairs, known.1.pairs_at_lem, known.1.places_at_lem, known.0.places_start)

kept_body : (s : List ℕ) → body_bytes (net_of s) (plan_of s) ≡ body_bytes (net_of s) (kept_plan s)
unfolding body_bytes label_bytes
kept_body s = refl

-- The table, what stands before the pairs, and the kept pairs are the clean sheet.
module _ (s : List ℕ) (l : Layout) (known : LaidBy s l) where
  layout_is : (m : Layout) (count : ℕ) → count ≡ kept_count s → m ≡ layout_for l.places l.transitions l.events count → m ≡ layout_of (net_of s) (kept_plan s)
  layout_is m count counted is = is ∙ simp (known.1.places, known.1.transitions, known.1.events, counted)

  part_is : Bytes (slice (places_at l) (pairs_at l) s) → slice (places_at l) (pairs_at l) s ≡ body_bytes (net_of s) (kept_plan s)
  part_is small =
      let from : places_at l ≡ table_length = known.1.places_at_lem ∙ known.0.places_start in
      let there = ap₂ (λ (a b : ℕ). slice a b s) from known.1.pairs_at_lem in
      there ∙ bodies_part s known.0 (subst Bytes there small) ∙ kept_body s

  pub clean_put : {old one two new : List ℕ} {at end last : ℕ} (m : Layout) (pairs : KeptPairs) → KeptOf s pairs
      → m ≡ layout_for l.places l.transitions l.events pairs.count → Put old one 0 (table m) at → Put one two at (slice (places_at l) (pairs_at l) s) end
      → Bytes (slice (places_at l) (pairs_at l) s) → Put two new end (each pairs.count (rows_bytes pairs.from pairs.to)) last → Put old new 0 (clean_of s) last
  unfolding clean_of bytes_of
  clean_put m pairs of is first second small third =
      put_then
      (put_then (put_says first (table (layout_of (net_of s) (kept_plan s))) (ap table (layout_is m pairs.count of.count is))) (put_says second (body_bytes (net_of s) (kept_plan s)) (part_is small)))
      (put_says third (order_bytes (kept_plan s)) (kept_order s known.0 pairs of))
