-- `sum_up` rests on what its three calls say of the counts in the row: the total, the number of short places and the verdict.
use Rattle.std.proofs.Common.{◌≡◌, ◌∙◌, length, take}
use Rattle.summary.proofs.Counts.{first_counts, small_counts}
use Rattle.summary.proofs.Laws.{place_told}
use Rattle.summary.specs.Summary.{count_at, values_in, values_of}
use Rattle.summary.proofs.sum_up.Goals as goal

pub total_missing-total-requires : goal.total_missing-total-requires
total_missing-total-requires c = small_counts _ _ c.requires.1 c.requires.0

pub short_places-short-requires : goal.short_places-short-requires
short_places-short-requires c = small_counts _ _ c.requires.1 c.requires.0

pub returns : goal.returns
unfolding values_of
returns c =
    let told = c.verdict_of-verdict.ensures in
    let counts = take c.args.n c.args.row.now in
    let summed : values_in (record { total = c.total_missing-total.result; short = c.short_places-short.result; verdict = c.verdict_of-verdict.result }) ≡ values_of (count_at counts) (length counts) =
    λ i.
    record {
      total = c.total_missing-total.ensures i;
      short = c.short_places-short.ensures i;
      number = told.0 i;
      count = told.1 i;
      first = place_told (count_at counts) (length counts) c.verdict_of-verdict.result told i;
    }
    in
    summed ∙ first_counts _ _ c.requires.1
