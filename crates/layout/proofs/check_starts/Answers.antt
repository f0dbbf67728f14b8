-- Entry by entry: the bodies so far start where they are due, so that the next decides if it doesn't.
use Rattle.std.proofs.Common.{ℕ, ◌+◌, ◌*◌, arith, refl, rules, false, List, ◌≡◌}
use Rattle.finite.specs.Bounded.{any}
use Rattle.finite.specs.Search.{search_start}
use Rattle.sheet.specs.Answered.{told_some}
use Rattle.sheet.specs.Faults.{misplaced_at}
use Rattle.sheet.specs.Laid.{weights_fit}
use Rattle.sheet.specs.Told.{no_fault}
use Rattle.layout.specs.Layout.{LayoutOf, places_at, transitions_at, events_at}
use Rattle.layout.specs.Starts.{start_fault}
use Rattle.layout.specs.declared.Layout.{Layout}
use Rattle.layout.proofs.Starts.{wrong_here, right_here, last_here}
use Rattle.layout.proofs.Table.{due_first, due_transitions, due_events, due_pairs}
use Rattle.layout.proofs.check_starts.Goals as goal

-- the bodies that start where they are due
module _ (l : Layout) (s : List ℕ) (is : LayoutOf s l) where
  one : no_fault ≡ start_fault (places_at l) 32 → any 1 (misplaced_at s) ≡ false
  one clear = right_here s 0 (omega arith) (search_start _) _ _ is.places_at_lem (due_first s _ is) _ clear refl

  two : any 1 (misplaced_at s) ≡ false → no_fault ≡ start_fault (transitions_at l) (places_at l + 4 * l.places) → any 2 (misplaced_at s) ≡ false
  two so_far clear = right_here s 1 (omega arith) so_far _ _ is.transitions_at_lem (due_transitions s _ is) _ clear refl

  three : any 2 (misplaced_at s) ≡ false → no_fault ≡ start_fault (events_at l) (transitions_at l + 4 * l.places * l.transitions) → any 3 (misplaced_at s) ≡ false
  three so_far clear = right_here s 2 (omega arith) so_far _ _ is.events_at_lem (due_events s _ is) _ clear refl

pub returns-in_err-check_start : goal.returns-in_err-check_start
returns-in_err-check_start c = λ s is. wrong_here s 0 (omega arith) (search_start _) _ _ is.places_at_lem (due_first s _ is) _ (search rules) (search (rules, told_some))

pub returns-in_err-check_start-2 : goal.returns-in_err-check_start-2
returns-in_err-check_start-2 c =
    λ s is. let first = one _ s is (c.in_ok-check_start.ensures) in
    wrong_here s 1 (omega arith) first _ _ is.transitions_at_lem (due_transitions s _ is) _ (search rules) (search (rules, told_some))

pub overflow_mul-l-3 : goal.overflow_mul-l-3
overflow_mul-l-3 c = omega (arith, weights_fit _ _ c.requires.0.places c.requires.0.transitions)

pub overflow_add-l-2 : goal.overflow_add-l-2
overflow_add-l-2 c = omega (arith, weights_fit _ _ c.requires.0.places c.requires.0.transitions, c.requires.1.transitions)

pub returns-in_err-check_start-3 : goal.returns-in_err-check_start-3
returns-in_err-check_start-3 c =
    λ s is. let second = two _ s is (one _ s is (c.in_ok-check_start.ensures)) (c.in_ok-check_start-2.ensures) in
    wrong_here s 2 (omega arith) second _ _ is.events_at_lem (due_events s _ is) _ (search rules) (search (rules, told_some))

pub overflow_mul-l-4 : goal.overflow_mul-l-4
overflow_mul-l-4 c = omega (arith, c.requires.0.places, c.requires.0.events)

pub overflow_add-l-3 : goal.overflow_add-l-3
overflow_add-l-3 c = omega (arith, c.requires.0, c.requires.1)

pub returns : goal.returns
returns c =
    λ s is. let second = two _ s is (one _ s is (c.in_ok-check_start.ensures)) (c.in_ok-check_start-2.ensures) in
    last_here s (three _ s is second (c.in_ok-check_start-3.ensures)) _ _ is.pairs_at_lem (due_pairs s _ is) _ c.check_start-4.ensures
