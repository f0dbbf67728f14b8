-- The answer of the plan judgement. Document 01, "Calls": the total missing, the number of short places, and a verdict.
use Rattle.std.specs.Prelude.{ℕ, ◌+◌, ◌≤◌, ◌<◌, List, ◌≡◌, ltb, get_or}
use Rattle.std.proofs.Math.Option.{Option, none, some}
use Rattle.finite.specs.First.{first}
use Rattle.finite.specs.Sum.{sum, on}
use Rattle.ids.specs.Limits.{most_places}
use Rattle.summary.specs.declared.Totals.{Totals}
use Rattle.summary.specs.declared.Verdict.{Verdict}
use Rattle.summary.specs.declared.Verdict.TheVariants.{Runs, Short}

-- Of the first n places, with the missing count of each: what is missing in all, and how many places are short.
unfoldable pub total_missing : (ℕ → ℕ) → ℕ → ℕ
total_missing missing n = sum n missing

unfoldable pub short_places : (ℕ → ℕ) → ℕ → ℕ
short_places missing n = sum n (λ p. on (ltb 0 (missing p)) 1)

-- the first short place, if there is one
abbrev pub first_short : (ℕ → ℕ) → ℕ → Option ℕ
first_short missing n = first n (λ p. ltb 0 (missing p))

-- What each case of a verdict says: the number that the till server gets, 0 for a plan that runs, or 1,000 plus the number of the first
-- short place,
abbrev pub verdict_number : Verdict → ℕ
verdict_number Runs = 0
verdict_number (Short p m) = 1000 + p.0

-- what is missing there,
abbrev pub verdict_count : Verdict → ℕ
verdict_count Runs = 0
verdict_count (Short p m) = m

-- and the number of that place itself, 0 where nothing is short.
abbrev pub verdict_place : Verdict → ℕ
verdict_place Runs = 0
verdict_place (Short p m) = p.0

-- what the three have to be, by the first short place
abbrev pub short_number : Option ℕ → ℕ
short_number none = 0
short_number (some p) = 1000 + p

abbrev pub short_count : (ℕ → ℕ) → Option ℕ → ℕ
short_count missing none = 0
short_count missing (some p) = missing p

abbrev pub first_place : Option ℕ → ℕ
first_place none = 0
first_place (some p) = p

-- The verdict v tells the first short place.
abbrev pub VerdictOf : (ℕ → ℕ) → ℕ → Verdict → Type 0
VerdictOf missing n v =
    (verdict_number v ≡ short_number (first_short missing n)) × (verdict_count v ≡ short_count missing (first_short missing n))

-- With the place p, where m are missing, the verdict v on the places below it becomes r, whatever is missing there.
abbrev pub NextVerdict : Verdict → ℕ → ℕ → Verdict → Type 0
NextVerdict v p m r = (missing : ℕ → ℕ) → missing p ≡ m → VerdictOf missing p v → VerdictOf missing (p + 1) r

-- The values of an answer: the total missing, the number of short places, and the three that the verdict says.
pub record PlanValues : Type 0 where
  pub total : ℕ
  pub short : ℕ
  pub number : ℕ
  pub count : ℕ
  pub first : ℕ

-- those that are told
abbrev pub values_in : Totals → PlanValues
values_in t =
    record {
      total = t.total;
      short = t.short;
      number = verdict_number t.verdict;
      count = verdict_count t.verdict;
      first = verdict_place t.verdict;
    }

-- those that the counts of n places come to
unfoldable pub values_of : (ℕ → ℕ) → ℕ → PlanValues
values_of missing n =
    record {
      total = total_missing missing n;
      short = short_places missing n;
      number = short_number (first_short missing n);
      count = short_count missing (first_short missing n);
      first = first_place (first_short missing n);
    }

-- the missing counts that stand in a row
abbrev pub count_at : List ℕ → ℕ → ℕ
count_at row p = get_or row p 0

-- The greatest missing count: every event takes the greatest weight, 1,000.
abbrev pub most_missing : ℕ
most_missing = 256000

-- A row of missing counts, one for each place.
pub record MissingCounts (row : List ℕ) (n : ℕ) : Type 0 where
  pub few : n ≤ most_places
  pub most : (p : ℕ) → p < n → count_at row p ≤ most_missing
