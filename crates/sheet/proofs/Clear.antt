-- A sheet that stands and says what it should has no fault: the converse of `laid` and of `faultless`.
use Prim.Native.Nat.{ℕ, zero, suc, ◌<◌}
use Rattle.std.proofs.Common.{arith, eqb→eq}
use Rattle.std.proofs.Math.Bool.{false, not, ◌||◌}
use Rattle.std.specs.Prelude.{List, ◌++◌, ◌≡◌, eqb, length}
use Rattle.std.proofs.Math.Option.{Option, none}
use Rattle.std.proofs.Math.Path.{ap, ap₂}
use borrow.Author.Tests.{le-ltb, lt-leb, eq-eqb}
use Rattle.std.specs.Float.Ieee.Bits.{is_false}
use Rattle.std.proofs.Math.Facts.{and_yes, not_T}
use Rattle.finite.proofs.First.{first_nothing}
use Rattle.finite.specs.Search.{nothing_found}
use Rattle.sheet.specs.Table.{table_length, start, count, limit, item_length, item, body_end, due, places_of, transitions_of, events_of, pairs_of}
use Rattle.sheet.specs.Items.{opening_at, takes_at, gives_at, label_at, earlier_at, later_at}
use Rattle.sheet.specs.Faults.{too_short, over_limit_at, over_limit, misplaced_at, misplaced, late_at, late, early_at, early, wrong_end, over_opening_at, over_opening, over_weight_at, over_weight_in}
use Rattle.sheet.specs.Faults.{over_weight, no_transition_at, no_transition, no_event_at, no_event, self_pair_at, self_pair, same_pair, repeat_at, repeated, cycle_at, cyclic}
use Rattle.sheet.specs.Faults.{layout_faults, number_faults, pair_faults, order_faults, content_faults, faults, fault_of}
use Rattle.sheet.specs.Faultless.{Absent, GoodNumbers, Faultless}
use Rattle.sheet.specs.Laid.{Laid}
use Rattle.sheet.specs.Told.{no_fault, plain}
use Rattle.sheet.specs.Clear.{none_first, absent_both, good_of, names_events, names_different}

module _ (s : List ℕ) (known : Laid s) where
  few : over_limit s ≡ false
  unfolding over_limit over_limit_at limit
  few = nothing_found 4 (over_limit_at s) each
    where
      each : (e : ℕ) → e < 4 → over_limit_at s e ≡ false
      each zero l = le-ltb (limit 0) (count s 0) known.limited.places
      each (suc zero) l = le-ltb (limit 1) (count s 1) known.limited.transitions
      each (suc (suc zero)) l = le-ltb (limit 2) (count s 2) known.limited.events
      each (suc (suc (suc zero))) l = le-ltb (limit 3) (count s 3) known.limited.pairs
      each (suc (suc (suc (suc e)))) l = absurd (omega arith)

  right : misplaced s ≡ none
  unfolding misplaced misplaced_at due body_end item item_length
  right = first_nothing 4 (misplaced_at s) each
    where
      each : (e : ℕ) → e < 4 → misplaced_at s e ≡ false
      each zero l = ap not (eq-eqb (start s 0) (due s 0) known.places_start)
      each (suc zero) l = ap not (eq-eqb (start s 1) (due s 1) known.transitions_start)
      each (suc (suc zero)) l = ap not (eq-eqb (start s 2) (due s 2) known.events_start)
      each (suc (suc (suc zero))) l = ap not (eq-eqb (start s 3) (due s 3) known.pairs_start)
      each (suc (suc (suc (suc e)))) l = absurd (omega arith)

  ends : wrong_end s ≡ false
  unfolding wrong_end body_end item item_length
  ends = ap not (eq-eqb (length s) (body_end s 3) known.end)

  -- the faults of the layout are absent
  pub layout_clear : Absent layout_faults s
  unfolding layout_faults too_short late early
  layout_clear = (
    ap plain (le-ltb (length s) table_length known.limited.table),
    (ap plain few, (ap (λ (o : Option ℕ). plain (late_at s o)) right, (ap (λ (o : Option ℕ). plain (early_at s o)) right, (ap plain ends, tt)))),
  )

-- faults 5, 6 and 7 are absent
module _ (s : List ℕ) (good : GoodNumbers s) where
  light : over_weight s ≡ none
  unfolding over_weight over_weight_in over_weight_at
  light =
      first_nothing (transitions_of s) (over_weight_in s) (λ t l.
      nothing_found (places_of s) (over_weight_at s t) (λ p m.
      ap₂ ◌||◌ (le-ltb 1000 (takes_at s t p) (good.takes t p l m)) (le-ltb 1000 (gives_at s t p) (good.gives t p l m))))

  pub numbers_clear : Absent number_faults s
  unfolding number_faults over_opening over_opening_at no_transition no_transition_at
  numbers_clear = (
    first_nothing (places_of s) (over_opening_at s) (λ p l. le-ltb 1000000 (opening_at s p) (good.openings p l)),
    (light, (first_nothing (events_of s) (no_transition_at s) (λ v l. lt-leb (transitions_of s) (label_at s v) (good.labels v l)), tt)),
  )

module _ (s : List ℕ) (known : Faultless s) where
  pub repeats_none : (j : ℕ) → j < pairs_of s → repeat_at s j ≡ false
  unfolding repeat_at same_pair
  repeats_none j l =
      nothing_found j (same_pair s j) (λ i m.
      is_false (same_pair s j i) (not_T (same_pair s j i) (λ t.
      let both = and_yes (eqb (earlier_at s i) (earlier_at s j)) (eqb (later_at s i) (later_at s j)) t in
      known.once i j m l (eqb→eq (earlier_at s i) (earlier_at s j) both.0) (eqb→eq (later_at s i) (later_at s j) both.1))))

  no_faults : Absent faults s
  unfolding faults content_faults pair_faults order_faults no_event self_pair repeated cyclic cycle_at
  no_faults =
      absent_both layout_faults content_faults s (layout_clear s known.laid) (absent_both (number_faults ++ pair_faults) order_faults s (absent_both number_faults pair_faults s
      (numbers_clear s (good_of s known)) (
        first_nothing (pairs_of s) (no_event_at s) (names_events s known),
        (first_nothing (pairs_of s) (self_pair_at s) (names_different s known), tt),
      )) (
        first_nothing (pairs_of s) (repeat_at s) repeats_none,
        (ap plain (nothing_found (events_of s) (cycle_at s) known.acyclic), tt),
      ))

  -- A sheet of which all this is known has no fault.
  pub no_fault_lem : fault_of s ≡ no_fault
  unfolding fault_of
  no_fault_lem = none_first faults s no_faults
