-- The missing counts of a sheet's places in a row: they are small enough to be added up, and what they come to.
use Rattle.std.specs.Prelude.{ℕ, List, ◌≡◌}
use Rattle.std.proofs.Common.{arith, ap, ◌∙◌}
use Rattle.finite.specs.Filled.{Filled}
use Rattle.place.specs.Place.{missing_at}
use Rattle.place.specs.Bounds.{most_missing_lem}
use Rattle.sheet.specs.Faultless.{Faultless}
use Rattle.sheet.specs.Table.{places_of}
use Rattle.summary.proofs.Laws.{values_agree}
use Rattle.summary.specs.Summary.{values_of, count_at, MissingCounts}

module _ (s : List ℕ) (known : Faultless s) (n : ℕ) (is : n ≡ places_of s) (old new : List ℕ) (counted : Filled (missing_at s) n old new) where
  pub small_counts : MissingCounts new n
  small_counts =
      record {
        few = omega (arith, is, known.laid.limited.places);
        most = λ p l. omega (arith, counted.numbers p l, most_missing_lem s known p (omega (arith, is)));
      }

  pub row_values : values_of (count_at new) n ≡ values_of (missing_at s) (places_of s)
  row_values = values_agree (count_at new) (missing_at s) n counted.numbers ∙ ap (values_of (missing_at s)) is
