-- The listing by the fault of the sheet.
use Prim.Native.Nat.{ℕ, zero, suc}
use mathlib.Core.List.{List}
use mathlib.Core.Path.{◌≡◌, refl, sym, ap, ◌∙◌}
use Rattle.lines.specs.Listing.{lines_of, refused_line, text_of, listing_of}
use Rattle.sheet.specs.Faults.{fault_of}
use Rattle.sheet.specs.Items.{net_of, plan_of}

module _ (s : List ℕ) where
  pub listing_refused : (k : ℕ) → k ≡ (fault_of s).number → ¬ (k ≡ 0) → listing_of s ≡ refused_line k
  unfolding listing_of text_of
  listing_refused zero e there = absurd (there refl)
  listing_refused (suc k) e there = ap (λ (fault : ℕ). text_of fault (net_of s) (plan_of s)) (sym e)

  pub listing_lines : (k : ℕ) → k ≡ (fault_of s).number → k ≡ 0 → listing_of s ≡ lines_of (net_of s) (plan_of s)
  unfolding listing_of text_of
  listing_lines k e clear = ap (λ (fault : ℕ). text_of fault (net_of s) (plan_of s)) (sym e ∙ clear)
