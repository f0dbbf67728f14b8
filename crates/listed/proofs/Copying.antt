-- A text of known length copied into a row, or refused.
use Rattle.std.specs.Prelude.{ℕ, List, ◌++◌, ◌≡◌, refl, length, take, drop, ltb}
use Rattle.std.proofs.Common.{arith, sym, ap, ◌∙◌}
use Rattle.calls.proofs.Refusal.{row_decides}
use Rattle.calls.specs.Overwritten.{at_fault, at_none}
use Rattle.calls.specs.Said.{answer, refusal, said_err, said_ok}
use Rattle.sheet.specs.Answered.{told, told_some}
use Rattle.sheet.specs.Told.{Told, no_fault, tell, plain}
use Rattle.sheet.specs.declared.Fault.{Fault}
use Rattle.text.specs.Put.{Put, put_front}
use Rattle.lines.specs.Listing.{listing_of}
use Rattle.listed.specs.Listed.{list_fault, list_says, row_after}

module _ (s row : List ℕ) {old new : List ℕ} {end : ℕ} (n : ℕ) (at : n ≡ end) (put : Put old new 0 (listing_of s) end) where
  size : n ≡ length (listing_of s)
  size = omega (arith, at, put.ends)

  due : {t : Told} → t ≡ tell 13 (plain (ltb (length row) n)) → t ≡ list_fault s row
  unfolding list_fault
  due is = row_decides no_fault row (length (listing_of s)) refl (rw (← size) is)

  -- the row is too short
  module _ (f : Fault) (is : told f ≡ tell 13 (plain (ltb (length row) n))) where
    pub refused : refusal (told f) ≡ list_says s row
    unfolding list_says
    refused = said_err f (list_fault s row) (length (listing_of s)) (due is)

    pub row_kept : row ≡ row_after s row
    unfolding row_after
    row_kept = at_fault (list_fault s row).number _ row (λ z. told_some f (ap (λ (t : Told). t.number) (due is) ∙ z))

  -- it has room
  module _ (none : no_fault ≡ tell 13 (plain (ltb (length row) n))) where
    pub written : answer n ≡ list_says s row
    unfolding list_says
    written = rw size (said_ok (list_fault s row) (length (listing_of s)) (due none))

    pub row_written : (text copied : List ℕ) (stop : ℕ) → text ≡ take end new → Put row copied 0 text stop → copied ≡ row_after s row
    unfolding row_after
    row_written text copied stop is h =
        let whole : text ≡ listing_of s = is ∙ put_front _ _ _ _ _ put in
        let last : stop ≡ length (listing_of s) = omega (arith, h.ends, ap length whole) in
        h.is
        ∙ ap (λ (x : List ℕ). x ++ drop stop row) whole
        ∙ ap (λ (k : ℕ). listing_of s ++ drop k row) last
        ∙ at_none (list_fault s row).number (listing_of s ++ drop (length (listing_of s)) row) row (ap (λ (t : Told). t.number) (sym (due none)))
