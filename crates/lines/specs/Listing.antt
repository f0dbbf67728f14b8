-- The listing of a sheet, as bytes. Document 01, "One desk's examples", and document 02, A3.
use Rattle.std.specs.Prelude.{ℕ, zero, suc, cond, List, [], ◌++◌, ℤ}
use Prim.Native.String.{String}
use Rattle.std.proofs.Math.Option.{Option, none, some}
use Rattle.finite.specs.Bounded.{any}
use Rattle.finite.specs.Each.{each}
use Rattle.finite.specs.Subset.{Set}
use Rattle.plan.specs.Net.{Net, Plan}
use Rattle.plan.specs.Order.{free_count}
use Rattle.plan.specs.Prefix.{missing, spare, smallest, end_count}
use Rattle.sheet.specs.Faults.{fault_of}
use Rattle.sheet.specs.Items.{net_of, plan_of}
use Rattle.summary.specs.Summary.{total_missing, short_places, first_short}
use Rattle.summary.specs.declared.Verdict.{Verdict}
use Rattle.summary.specs.declared.Verdict.TheVariants.{Runs, Short}
use Rattle.text.specs.Words.{word, decimal, signed}

-- a word and the number after it
abbrev pub field : String → ℕ → List ℕ
field w n = word w ++ decimal n

-- Line one: events, pairs, free count.
unfoldable pub plan_line : ℕ → ℕ → ℕ → List ℕ
plan_line events pairs free = field "plan events " events ++ field " pairs " pairs ++ field " free " free ++ word "\n"

-- Then per place: number, opening, end and spare counts. Document 02, A3.
unfoldable pub place_line : ℕ → ℕ → ℤ → ℤ → List ℕ
place_line p opening end spare =
    field "place " p ++ field " open " opening ++ word " end " ++ signed end ++ word " spare " ++ signed spare ++ word "\n"

-- Then short places and total missing.
unfoldable pub totals_line : ℕ → ℕ → List ℕ
totals_line short total = field "short " short ++ field " total " total ++ word "\n"

-- an event of a set, after a space
abbrev pub event_in : Set → ℕ → List ℕ
event_in D v = cond (D v) (field " " v) []

-- the events of a set of n, ascending, each after a space, or `none`
unfoldable pub done_events : ℕ → Set → List ℕ
done_events n D = cond (any n D) (each n (event_in D)) (word " none")

-- The last line is the first short place and its done events; a plan that runs has the line `runs` instead.
unfoldable pub first_line : ℕ → ℕ → Set → List ℕ
first_line p events D = field "first " p ++ word " done" ++ done_events events D ++ word "\n"

unfoldable pub runs_line : List ℕ
runs_line = word "runs\n"

-- that line by the verdict and the done set of its place
unfoldable pub last_line : Verdict → ℕ → Set → List ℕ
last_line Runs events D = runs_line
last_line (Short p m) events D = first_line p.0 events D

-- that line by the first short place, if there is one
unfoldable pub short_line : Net → Plan → Option ℕ → List ℕ
short_line N P none = runs_line
short_line N P (some p) = first_line p P.events (smallest N P p)

-- the line of the place p
unfoldable pub line_of : Net → Plan → ℕ → List ℕ
line_of N P p = place_line p (N.opening p) (end_count N P p) (spare N P p)

-- the lines that tell counts, of the plan, of each place and of all places
unfoldable pub count_lines : Net → Plan → List ℕ
count_lines N P =
    plan_line P.events P.pairs (free_count P)
    ++ each N.places (line_of N P)
    ++ totals_line (short_places (missing N P) N.places) (total_missing (missing N P) N.places)

-- the lines of a net and a plan
unfoldable pub lines_of : Net → Plan → List ℕ
lines_of N P = count_lines N P ++ short_line N P (first_short (missing N P) N.places)

-- A faulty sheet prints one line only.
unfoldable pub refused_line : ℕ → List ℕ
refused_line fault = field "refused " fault ++ word "\n"

-- the text for a fault's number, 0 for none; its item isn't shown
unfoldable pub text_of : ℕ → Net → Plan → List ℕ
text_of zero N P = lines_of N P
text_of (suc fault) N P = refused_line (suc fault)

-- the listing of a sheet
unfoldable pub listing_of : List ℕ → List ℕ
listing_of s = text_of (fault_of s).number (net_of s) (plan_of s)
