-- How much of a longer sheet is enough to refuse to mend it: 21,281 bytes, one more than the longest sheet has.
use Rattle.std.specs.Prelude.{ℕ, List, ◌≡◌}
use Rattle.mending.specs.Mended.{mend_says, clean_after, reasons_after}

-- What the call says of one sheet and leaves in the rows is what it says and leaves for another.
pub record SameMending (s t clean reasons : List ℕ) : Type 0 where
  pub said : mend_says s clean reasons ≡ mend_says t clean reasons
  pub clean_row : clean_after s clean reasons ≡ clean_after t clean reasons
  pub reasons_row : reasons_after s clean reasons ≡ reasons_after t clean reasons
