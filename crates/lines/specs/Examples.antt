-- Document 01's listing of its sheet of 78 bytes, and the listings of a plan that runs with a token to spare, of one that is short after an event, of three
-- bookings in a row, and of a faulty sheet.
use Rattle.std.specs.Prelude.{ℕ, List, [], ◌∷◌, ◌++◌, ◌≡◌, refl}
use Rattle.numbers.specs.Number.{number}
use Rattle.finite.specs.Each.{each}
use Rattle.finite.specs.Bounded.{all, any}
use Rattle.finite.specs.Count.{count as members}
use Rattle.finite.specs.First.{first}
use Rattle.finite.specs.Pairs.{count_pairs}
use Rattle.finite.specs.Subset.{greatest, every}
use Rattle.finite.specs.Sum.{sum, over}
use Rattle.plan.specs.Order.{before, before_by, independent, free_count}
use Rattle.plan.specs.Prefix.{prefix, front, tokens, lack, missing, need, least_opening, spare, smallest, end_count}
use Rattle.sheet.specs.Table.{start, count, limit, item_length, item, body_end, due}
use Rattle.sheet.specs.Items.{opening_at, takes_at, gives_at, label_at, earlier_at, later_at}
use Rattle.sheet.specs.Faults.{too_short, over_limit_at, over_limit, misplaced_at, misplaced, late, early, wrong_end, over_opening_at, over_opening, over_weight_at, over_weight_in, over_weight}
use Rattle.sheet.specs.Faults.{no_transition_at, no_transition, no_event_at, no_event, self_pair_at, self_pair, same_pair, repeat_at, repeated, cycle_at, cyclic}
use Rattle.sheet.specs.Faults.{layout_faults, number_faults, pair_faults, order_faults, content_faults, faults, first_fault, fault_of}
use Rattle.sheet.specs.Told.{or_else}
use Rattle.summary.specs.Summary.{total_missing, short_places}
use Rattle.text.specs.Words.{word, digits, decimal, signed}
use Rattle.lines.specs.Listing.{plan_line, place_line, totals_line, done_events, first_line, runs_line, short_line, line_of, count_lines, lines_of, refused_line, text_of, listing_of}

-- Starts 32, 44, 68, 74; 3 places with the given opening counts; hold takes 1 0 0 gives 0 1 0; sell takes 0 1 0 gives 0 0 1;
-- events 0, 0, 1; so many pairs, in bytes.
pub sheet : ℕ → ℕ → ℕ → ℕ → List ℕ → List ℕ
sheet a b c n pairs =
    (32 ∷ 0 ∷ 0 ∷ 0 ∷ 3 ∷ 0 ∷ 0 ∷ 0 ∷ 44 ∷ 0 ∷ 0 ∷ 0 ∷ 2 ∷ 0 ∷ 0 ∷ 0 ∷ [])
    ++ (68 ∷ 0 ∷ 0 ∷ 0 ∷ 3 ∷ 0 ∷ 0 ∷ 0 ∷ 74 ∷ 0 ∷ 0 ∷ 0 ∷ n ∷ 0 ∷ 0 ∷ 0 ∷ [])
    ++ (a ∷ 0 ∷ 0 ∷ 0 ∷ b ∷ 0 ∷ 0 ∷ 0 ∷ c ∷ 0 ∷ 0 ∷ 0 ∷ [])
    ++ (1 ∷ 0 ∷ 0 ∷ 0 ∷ 0 ∷ 0 ∷ 0 ∷ 0 ∷ 1 ∷ 0 ∷ 0 ∷ 0 ∷ [])
    ++ (0 ∷ 0 ∷ 1 ∷ 0 ∷ 0 ∷ 0 ∷ 0 ∷ 0 ∷ 0 ∷ 0 ∷ 1 ∷ 0 ∷ [])
    ++ (0 ∷ 0 ∷ 0 ∷ 0 ∷ 1 ∷ 0 ∷ []) ++ pairs

pub examples :
    (listing_of (sheet 1 0 0 1 (0 ∷ 0 ∷ 2 ∷ 0 ∷ []))
    ≡ word "plan events 3 pairs 1 free 2\nplace 0 open 1 end -1 spare -1\nplace 1 open 0 end 1 spare 0\nplace 2 open 0 end 1 spare 0\nshort 1 total 1\nfirst 0 done none\n")
    × (listing_of (sheet 3 0 0 1 (0 ∷ 0 ∷ 2 ∷ 0 ∷ []))
    ≡ word "plan events 3 pairs 1 free 2\nplace 0 open 3 end 1 spare 1\nplace 1 open 0 end 1 spare 0\nplace 2 open 0 end 1 spare 0\nshort 0 total 0\nruns\n")
    × (listing_of (sheet 1 0 0 1 (0 ∷ 0 ∷ 1 ∷ 0 ∷ []))
    ≡ word "plan events 3 pairs 1 free 2\nplace 0 open 1 end -1 spare -1\nplace 1 open 0 end 1 spare -1\nplace 2 open 0 end 1 spare 0\nshort 2 total 2\nfirst 0 done 0\n")
    × (listing_of (sheet 1 0 0 2 (0 ∷ 0 ∷ 1 ∷ 0 ∷ 1 ∷ 0 ∷ 2 ∷ 0 ∷ []))
    ≡ word "plan events 3 pairs 2 free 0\nplace 0 open 1 end -1 spare -1\nplace 1 open 0 end 1 spare 0\nplace 2 open 0 end 1 spare 0\nshort 1 total 1\nfirst 0 done 0\n")
    × (listing_of [] ≡ word "refused 1\n")
unfolding sheet word digits decimal signed plan_line place_line totals_line each done_events first_line runs_line short_line line_of count_lines lines_of refused_line text_of listing_of
    number any all before before_by independent free_count count_pairs members prefix front tokens lack missing need least_opening spare smallest end_count greatest every sum over
    start count limit item_length item body_end due opening_at takes_at gives_at label_at earlier_at later_at too_short over_limit_at over_limit misplaced_at misplaced late early wrong_end
    over_opening_at over_opening over_weight_at over_weight_in over_weight no_transition_at no_transition no_event_at no_event self_pair_at self_pair same_pair repeat_at repeated cycle_at cyclic
    layout_faults number_faults pair_faults order_faults content_faults faults first_fault fault_of first or_else total_missing short_places
examples = (refl, refl, refl, refl, refl)
