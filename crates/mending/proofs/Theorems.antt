-- What mending gives, for all bytes: the proofs.
use Rattle.std.specs.Prelude.{ℕ, ◌<◌, ◌≤◌, ◌≡◌, length}
use Rattle.std.proofs.Common.{arith, sym, ◌∙◌}
use mathlib.Core.List.{List, ◌++◌}
use Rattle.std.proofs.Math.Option.{some}
use Rattle.std.proofs.Math.Path.{refl, ap, subst}
use Rattle.std.proofs.Math.ListN.{get_or, take, drop}
use Rattle.std.proofs.Math.Seq.{take_at}
use Rattle.calls.specs.Call.{row_fault}
use Rattle.calls.proofs.Call.{long_row}
use Rattle.calls.specs.Overwritten.{overwritten, over_first, at_none}
use Rattle.calls.specs.Said.{answer, said_answer, values_said, values_clear}
use Rattle.finite.specs.Stands.{Bytes}
use Rattle.plan.specs.Compare.{SameEvents}
use Rattle.reasons.proofs.Laws.{kept_before, all_kept, same_pairs, no_kept_cycle}
use Rattle.reasons.specs.Reasons.{reason_at, kept_plan}
use Rattle.sheet.specs.Clear.{good_of}
use Rattle.sheet.proofs.Clear.{no_fault_lem}
use Rattle.sheet.specs.Told.{Told}
use Rattle.sheet.specs.Faultless.{Faultless}
use Rattle.sheet.proofs.Faultless.{faultless}
use Rattle.sheet.specs.Faults.{fault_of}
use Rattle.sheet.specs.Items.{net_of, plan_of}
use Rattle.sheet.specs.Table.{pairs_of}
use Rattle.writer.proofs.WriteBack.{write_back, written_same}
use Rattle.kept_pairs.specs.Clean.{clean_of}
use Rattle.mending.specs.CleanSheet.{clean_says, clean_bytes, clean_length, clean_before, clean_faultless}
use Rattle.mending.specs.Mendable.{Mendable}
use Rattle.mending.proofs.Mendable.{mendable, not_refused, call_clear}
use Rattle.mending.specs.Mended.{sheet_fault, mend_fault, mend_says, clean_after, reasons_after}
use Rattle.mending.specs.Theorems.{Unchanged, Mends}

module _ (s : List ℕ) (bytes : Bytes s) (known : Faultless s) where
  faultless_mendable : Mendable s
  faultless_mendable = record { laid = known.laid; numbers = good_of s known; acyclic = no_kept_cycle s known }

  faultless_same : clean_of s ≡ s
  unfolding clean_of
  faultless_same =
      written_same
      (net_of s)
      (net_of s)
      (kept_plan s)
      (plan_of s)
      (record { places = refl; transitions = refl; opening = λ p l. refl; takes = λ t p l m. refl; gives = λ t p l m. refl })
      (record { events = refl; labels = λ v l. refl })
      (same_pairs s known)
      ∙ write_back s known.laid bytes

  unchanged_by : Unchanged s
  unchanged_by = record { taken = not_refused s faultless_mendable; same = faultless_same; all_kept = all_kept s known }

-- A faultless sheet comes back unchanged.
pub unchanged : (s : List ℕ) → Bytes s → (fault_of s).number ≡ 0 → Unchanged s
unchanged s bytes clear = unchanged_by s bytes (faultless s clear)

-- the plan with the kept pairs has the events of the sheet
events_given : (s : List ℕ) → Mendable s → SameEvents (plan_of (clean_of s)) (plan_of s)
events_given s known = let same = (clean_says s known).events in record { events = same.events; labels = same.labels }

pub mends : (s : List ℕ) → Mendable s → Mends s (clean_of s)
mends s known =
    let clean = clean_faultless s known in
    record {
      no_fault_lem = no_fault_lem (clean_of s) clean;
      again = unchanged_by (clean_of s) (clean_bytes s known) clean;
      order = λ u v.
          let kept = clean_before s known u v in
          let two = kept_before s u v in
          (λ b. two.0 (kept.0 b), λ b. kept.1 (two.1 b));
      net = (clean_says s known).net;
      events = events_given s known;
      pairs = (clean_says s known).pairs;
      no_longer = clean_length s known;
    }

module _ (s clean reasons : List ℕ) where
  -- what stands in the clean row where the call isn't refused
  row_is : (mend_fault s clean reasons).number ≡ 0 → take (length (clean_of s)) (clean_after s clean reasons) ≡ clean_of s
  unfolding clean_after
  row_is e =
      ap (take (length (clean_of s))) (sym (at_none (mend_fault s clean reasons).number (clean_of s ++ drop (length (clean_of s)) clean) clean e))
      ∙ take_at (clean_of s) (drop (length (clean_of s)) clean) (length (clean_of s)) refl

  -- Where the call isn't refused and tells n, the first n bytes of the clean row are what mending makes of the sheet.
  pub mended : (n : ℕ) → (mend_says s clean reasons).values ≡ some n → Mends s (take n (clean_after s clean reasons))
  unfolding mend_says
  mended n e =
      let clear = values_clear (mend_fault s clean reasons) (length (clean_of s)) n e in
      let length-is = values_said (mend_fault s clean reasons) (length (clean_of s)) n e in
      subst
      (Mends s)
      (sym (row_is clear) ∙ ap (λ (k : ℕ). take k (clean_after s clean reasons)) length-is)
      (mends s (mendable s (call_clear s clean reasons clear).sheet))

  -- With long enough rows the call refuses nothing that comes back unchanged: it tells the sheet's length, the sheet stands in the one row, and in the other
  -- every reason is 0.
  pub told_again : Unchanged s → pairs_of s ≤ length reasons → length s ≤ length clean
      → (mend_says s clean reasons ≡ answer (length s)) × (take (length s) (clean_after s clean reasons) ≡ s) × ((i : ℕ) → i < pairs_of s → get_or (reasons_after s clean reasons) i 0 ≡ 0)
  unfolding mend_says mend_fault reasons_after
  told_again same enough room =
      let first = long_row (sheet_fault s) reasons (pairs_of s) (ap (λ (f : Told). f.number) same.taken) enough in
      let clear = ap (λ (f : Told). f.number) (long_row (row_fault (sheet_fault s) reasons (pairs_of s)) clean (length s) (ap (λ (f : Told). f.number) first) room) in (
        said_answer (mend_fault s clean reasons) (length (clean_of s)) clear ∙ ap (λ (t : List ℕ). answer (length t)) same.same,
        ap (λ (t : List ℕ). take (length t) (clean_after s clean reasons)) (sym same.same) ∙ row_is clear ∙ same.same,
        λ i l.
            ap (λ (row : List ℕ). get_or row i 0) (sym (at_none (mend_fault s clean reasons).number (overwritten (reason_at s) (pairs_of s) reasons) reasons clear))
            ∙ over_first (reason_at s) (pairs_of s) reasons i l (omega (arith, enough))
            ∙ same.all_kept i l,
      )
