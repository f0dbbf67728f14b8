-- The tests of the table of contents: a wrong count passes the test, where each body is due, and which fault is told.
use Prim.Native.Nat.{ℕ, ◌+◌, ◌*◌, ◌<◌, ◌≤◌}
use native.Mathlib.Omega.{arith}
use mathlib.Core.Bool.{Bool, true, false, not}
use mathlib.Core.List.{List}
use mathlib.Core.Path.{◌≡◌, refl, sym, ap, ◌∙◌}
use borrow.Author.Tests.{lt-ltb, le-ltb, ne_eqb, eq-eqb}
use lib.Dec.{ltb}
use lib.ListN.{length}
use Rattle.finite.specs.Bounded.{any}
use Rattle.finite.specs.Search.{search_found}
use Rattle.ids.specs.Limits.{most_places, most_transitions, most_events, most_pairs}
use Rattle.numbers.specs.Number.{number}
use Rattle.sheet.specs.Table.{table_length, start, count, limit, item_length, item, body_end, due}
use Rattle.sheet.specs.Faults.{too_short, over_limit_at, over_limit, late, early, wrong_end, layout_faults, first_fault}
use Rattle.sheet.specs.Told.{fault_at, no_fault, tell, plain, or_else, else_first, else_next, Told}
use Rattle.layout.specs.Layout.{places_at, transitions_at, events_at, pairs_at, LayoutOf}
use Rattle.layout.specs.Starts.{starts_fault}
use Rattle.layout.specs.declared.Layout.{Layout}

-- the numbers of an entry, where the code reads them
pub start_is : (s : List ℕ) (e at : ℕ) → at ≡ 8 * e → number 4 s at ≡ start s e
unfolding start
start_is s e at is = rw is

pub count_is : (s : List ℕ) (e at : ℕ) → at ≡ 8 * e + 4 → number 4 s at ≡ count s e
unfolding count
count_is s e at is = rw is

pub short_is : (s : List ℕ) → ltb (length s) table_length ≡ too_short s
unfolding too_short
short_is s = refl

module _ (s : List ℕ) (l : Layout) (is : LayoutOf s l) where
  -- 2
  over : (e : ℕ) → e < 4 → limit e < count s e → true ≡ over_limit s
  unfolding over_limit over_limit_at
  over e h more = search_found 4 4 (over_limit_at s) e refl h (lt-ltb (limit e) (count s e) more)

  pub over_places : most_places < l.places → true ≡ over_limit s
  unfolding limit
  over_places h = over 0 (omega arith) (omega arith)

  pub over_transitions : most_transitions < l.transitions → true ≡ over_limit s
  unfolding limit
  over_transitions h = over 1 (omega arith) (omega arith)

  pub over_events : most_events < l.events → true ≡ over_limit s
  unfolding limit
  over_events h = over 2 (omega arith) (omega arith)

  pub over_last : (most : ℕ) → most ≡ most_pairs → l.places ≤ most_places → l.transitions ≤ most_transitions → l.events ≤ most_events
      → ltb most l.pairs ≡ over_limit s
  unfolding over_limit over_limit_at any limit
  over_last most last h i j =
      simp (last, is.pairs, le-ltb 64 (count s 0) (omega arith), le-ltb 64 (count s 1) (omega arith), le-ltb 256 (count s 2) (omega arith))

  -- where each body is due, by the layout
  pub due_first : table_length ≡ due s 0
  unfolding due
  due_first = refl

  pub due_transitions : places_at l + 4 * l.places ≡ due s 1
  unfolding due body_end item item_length
  due_transitions = omega arith

  pub due_events : transitions_at l + 4 * l.places * l.transitions ≡ due s 2
  unfolding due body_end item item_length
  due_events = simp (is.transitions_at_lem, is.places, is.transitions)

  pub due_pairs : events_at l + 2 * l.events ≡ due s 3
  unfolding due body_end item item_length
  due_pairs = omega arith

  -- 4
  end_is : pairs_at l + 4 * l.pairs ≡ body_end s 3
  unfolding body_end item item_length
  end_is = omega arith

  pub ends_elsewhere : ¬ (length s ≡ pairs_at l + 4 * l.pairs) → fault_at 4 0 ≡ tell 4 (plain (wrong_end s))
  unfolding wrong_end
  ends_elsewhere apart =
      sym (ap (λ (b : Bool). tell 4 (plain (not b))) (ne_eqb (length s) (body_end s 3) (λ e. apart (e ∙ sym end_is))))

  pub ends_there : length s ≡ pairs_at l + 4 * l.pairs → no_fault ≡ tell 4 (plain (wrong_end s))
  unfolding wrong_end
  ends_there e = sym (ap (λ (b : Bool). tell 4 (plain (not b))) (eq-eqb (length s) (body_end s 3) (e ∙ end_is)))

-- 14 and 15 are looked for one after the other
parts : (a b : Bool) (g : Told) → or_else (tell 14 (plain a)) (or_else (tell 15 (plain b)) g) ≡ or_else (or_else (tell 14 (plain a)) (tell 15 (plain b))) g
unfolding or_else
parts true b g = refl
parts false true g = refl
parts false false g = refl

last_one : (b : Bool) → or_else (tell 4 (plain b)) no_fault ≡ tell 4 (plain b)
unfolding or_else
last_one true = refl
last_one false = refl

-- the fault that is told, by what each test said
module _ (s : List ℕ) where
  -- f is what is told of the sheet
  abbrev Due : Told → Type 0
  Due f = f ≡ first_fault layout_faults s

  pub fault_1 : too_short s ≡ true → Due (fault_at 1 0)
  unfolding layout_faults first_fault or_else
  fault_1 a = simp a

  module _ (no-1 : too_short s ≡ false) where
    pub fault_2 : over_limit s ≡ true → Due (fault_at 2 0)
    unfolding layout_faults first_fault or_else
    fault_2 a = simp (no-1, a)

    module _ (no-2 : over_limit s ≡ false) (f : Told) (is : f ≡ starts_fault s) where
      -- 14 and 15 as one, then 4
      rest : first_fault layout_faults s ≡ or_else f (or_else (tell 4 (plain (wrong_end s))) no_fault)
      unfolding layout_faults first_fault starts_fault
      rest =
          else_next (tell 1 (plain (too_short s))) _ (ap (λ (b : Bool). (tell 1 (plain b)).number) no-1)
          ∙ else_next (tell 2 (plain (over_limit s))) _ (ap (λ (b : Bool). (tell 2 (plain b)).number) no-2)
          ∙ parts (late s) (early s) _
          ∙ ap (λ (g : Told). or_else g (or_else (tell 4 (plain (wrong_end s))) no_fault)) (sym is)

      pub fault_starts : ¬ (f.number ≡ 0) → Due f
      fault_starts there = sym (rest ∙ else_first f _ there)

      -- what is told of the end
      pub fault_end : f.number ≡ 0 → (g : Told) → g ≡ tell 4 (plain (wrong_end s)) → Due g
      fault_end right g e = e ∙ sym (rest ∙ else_next f _ right ∙ last_one (wrong_end s))
