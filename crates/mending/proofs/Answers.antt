-- The answer of the mending call and the rows that it leaves, at each place where it returns.
use Rattle.std.specs.Prelude.{ℕ, ◌+◌, ◌-◌, ◌<◌, ◌≤◌, List, ◌++◌, ◌≡◌, ltb, length, get_or, take, drop}
use Rattle.std.proofs.Common.{arith, sym, ap, ◌∙◌, length-take-le}
use Rattle.std.proofs.lemmas.List.{length-drop, length-append}
use lib.ListN.{get_or-append}
use lib.Seq.{get_or-take, get_or-drop, get_or-append-add}
use Rattle.calls.specs.Call.{row_fault}
use Rattle.calls.proofs.Refusal.{row_handed, row_decides}
use Rattle.calls.specs.Overwritten.{overwritten, filled_is, at_fault, at_none}
use Rattle.calls.specs.Said.{refusal, answer, said_err, said_ok}
use Rattle.finite.specs.Filled.{Filled}
use Rattle.ids.specs.Limits.{most_pairs}
use Rattle.reasons.specs.Reasons.{reason_at}
use Rattle.sheet.specs.Answered.{told, told_some}
use Rattle.sheet.specs.Laid.{Laid}
use Rattle.sheet.specs.Table.{pairs_of}
use Rattle.sheet.specs.Told.{Told, no_fault, tell, plain}
use Rattle.sheet.specs.declared.Fault.{Fault}
use Rattle.text.specs.Put.{Put}
use Rattle.kept_pairs.specs.Clean.{clean_of}
use Rattle.mending.specs.Mendable.{CallClear}
use Rattle.mending.proofs.Mendable.{mendable, call_clear}
use Rattle.mending.specs.Mended.{sheet_fault, mend_fault, mend_says, clean_after, reasons_after}

-- A sheet that isn't refused stands.
pub stands : (s : List ℕ) → no_fault ≡ sheet_fault s → Laid s
stands s clear = (mendable s (ap (λ (t : Told). t.number) (sym clear))).laid

-- Its pairs are no more than a row of the call's own has.
pub few : (s r : List ℕ) (n have : ℕ) → no_fault ≡ sheet_fault s → r ≡ s → n ≡ pairs_of r → most_pairs ≤ have → n ≤ have
few s r n have clear same pairs long = omega (arith, pairs, ap pairs_of same, (stands s clear).limited.pairs, long)

-- Numbers that stand before what follows in a row fill it.
front_filled : (f : ℕ → ℕ) (k : ℕ) (front old : List ℕ) → length front ≡ k → k ≤ length old → ((i : ℕ) → i < k → get_or front i 0 ≡ f i) → Filled f k old (front ++ drop k old)
front_filled f k front old long within numbers =
    record {
      size = length-append front (drop k old) ∙ omega (arith, long, within, length-drop k old);
      numbers = λ i l. get_or-append front (drop k old) 0 i (omega (arith, long)) ∙ numbers i l;
      rest = λ i l.
          let j = i - k in
          let there : i ≡ length front + j = omega (arith, long) in
          let same : k + j ≡ i = omega arith in
          ap (λ (n : ℕ). get_or (front ++ drop k old) n 0) there
          ∙ get_or-append-add front (drop k old) j 0
          ∙ get_or-drop k old j 0
          ∙ ap (λ (n : ℕ). get_or old n 0) same;
    }

module _ (s clean reasons : List ℕ) where
  -- the fault of the call, by the sheet and by each of its rows
  pub by_sheet : (f : Fault) → told f ≡ sheet_fault s → told f ≡ mend_fault s clean reasons
  unfolding mend_fault
  by_sheet f is = row_handed (row_fault (sheet_fault s) reasons (pairs_of s)) clean (length s) f (row_handed (sheet_fault s) reasons (pairs_of s) f is)

  module _ (r : List ℕ) (n : ℕ) (clear : no_fault ≡ sheet_fault s) (same : r ≡ s) (pairs : n ≡ pairs_of r) where
    row_told : {t : Told} → t ≡ tell 13 (plain (ltb (length reasons) n)) → t ≡ row_fault (sheet_fault s) reasons (pairs_of s)
    row_told is =
        row_decides (sheet_fault s) reasons (pairs_of s) clear (is ∙ ap (λ (k : ℕ). tell 13 (plain (ltb (length reasons) k))) (pairs ∙ ap pairs_of same))

    pub by_reasons : (f : Fault) → told f ≡ tell 13 (plain (ltb (length reasons) n)) → told f ≡ mend_fault s clean reasons
    unfolding mend_fault
    by_reasons f is = row_handed (row_fault (sheet_fault s) reasons (pairs_of s)) clean (length s) f (row_told is)

    pub by_clean : {t : Told} → no_fault ≡ tell 13 (plain (ltb (length reasons) n)) → t ≡ tell 13 (plain (ltb (length clean) (length s))) → t ≡ mend_fault s clean reasons
    unfolding mend_fault
    by_clean room is = row_decides (row_fault (sheet_fault s) reasons (pairs_of s)) clean (length s) (row_told room) is

  -- A call that is refused tells its fault, and the rows are as they were.
  pub refused : (f : Fault) → told f ≡ mend_fault s clean reasons
      → (refusal (told f) ≡ mend_says s clean reasons) × ((clean ≡ clean_after s clean reasons) × (reasons ≡ reasons_after s clean reasons))
  unfolding mend_says clean_after reasons_after
  refused f is =
      let some : ¬ ((mend_fault s clean reasons).number ≡ 0) = λ z. told_some f (ap (λ (t : Told). t.number) is ∙ z) in (
        said_err f (mend_fault s clean reasons) (length (clean_of s)) is,
        (at_fault (mend_fault s clean reasons).number _ clean some, at_fault (mend_fault s clean reasons).number _ reasons some),
      )

  module _ (none : no_fault ≡ mend_fault s clean reasons) where
    clear_of : (mend_fault s clean reasons).number ≡ 0
    clear_of = ap (λ (t : Told). t.number) (sym none)

    pub known : CallClear s clean reasons
    known = call_clear s clean reasons clear_of

    pub mended : (n : ℕ) (new old given front : List ℕ) (k : ℕ) → Put clean new 0 (clean_of s) n → Filled (reason_at s) (pairs_of s) old given → k ≡ pairs_of s
        → k ≤ length given → front ≡ take k given
        → (answer n ≡ mend_says s clean reasons) × ((new ≡ clean_after s clean reasons) × (front ++ drop k reasons ≡ reasons_after s clean reasons))
    unfolding mend_says clean_after reasons_after
    mended n new old given front k put written is long copied =
        let size : length front ≡ k = ap length copied ∙ length-take-le k given long in
        let same : (i : ℕ) → i < k → get_or front i 0 ≡ reason_at s i =
        λ i l. ap (λ (row : List ℕ). get_or row i 0) copied ∙ get_or-take k given i 0 l ∙ written.numbers i (omega (arith, is)) in
        let filled = front_filled (reason_at s) k front reasons size (omega (arith, is, known.reasons_long)) same in
        let all : n ≡ length (clean_of s) = omega (arith, put.ends) in (
          ap answer all ∙ said_ok (mend_fault s clean reasons) (length (clean_of s)) none,
          (
            put.is ∙ ap (λ (m : ℕ). clean_of s ++ drop m clean) all ∙ at_none (mend_fault s clean reasons).number (clean_of s ++ drop (length (clean_of s)) clean) clean clear_of,
            filled_is (reason_at s) k reasons (front ++ drop k reasons) filled
                ∙ ap (λ (m : ℕ). overwritten (reason_at s) m reasons) is
                ∙ at_none (mend_fault s clean reasons).number (overwritten (reason_at s) (pairs_of s) reasons) reasons clear_of,
          ),
        )
