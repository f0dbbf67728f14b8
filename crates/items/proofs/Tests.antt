-- What each comparison says of one item: it is the first at fault, or it and those before it aren't.
use Prim.Native.Nat.{ℕ, ◌+◌, ◌<◌, ◌≤◌}
use native.Mathlib.Omega.{arith}
use mathlib.Core.Bool.{Bool, true, false, or-true}
use mathlib.Core.List.{List}
use mathlib.Core.Path.{◌≡◌, refl, sym, ◌∙◌}
use borrow.Author.Tests.{lt-ltb, le-ltb, le-leb, lt-leb, eq-eqb, ne_eqb}
use Rattle.finite.specs.Bounded.{any}
use Rattle.finite.specs.Search.{search_more, search_found}
use Rattle.sheet.specs.Chain.{told}
use Rattle.sheet.specs.Table.{places_of, transitions_of, events_of, pairs_of}
use Rattle.sheet.specs.Items.{opening_at, takes_at, gives_at, label_at, earlier_at, later_at}
use Rattle.sheet.specs.Faults.{over_opening_at, over_opening, over_weight_at, over_weight_in, over_weight, no_transition_at, no_transition, no_event_at, no_event, self_pair_at, self_pair}
use Rattle.sheet.specs.Told.{fault_at, tell, item_found}

module _ (s : List ℕ) where
  -- 5
  pub opening_found : (p x : ℕ) → any p (over_opening_at s) ≡ false → p < places_of s → x ≡ opening_at s p → 1000000 < x → fault_at 5 p ≡ tell 5 (over_opening s)
  unfolding over_opening over_opening_at
  opening_found p x none h read over =
      item_found 5 (over_opening_at s) _ _ p refl h none (lt-ltb 1000000 (opening_at s p) (omega arith)) refl

  pub opening_more : (p x : ℕ) → any p (over_opening_at s) ≡ false → x ≡ opening_at s p → x ≤ 1000000 → any (p + 1) (over_opening_at s) ≡ false
  unfolding over_opening_at
  opening_more p x none read right = search_more (over_opening_at s) p none (le-ltb 1000000 (opening_at s p) (omega arith))

  -- 6
  pub takes_found : (t p x : ℕ) → p < places_of s → x ≡ takes_at s t p → 1000 < x → true ≡ over_weight_in s t
  unfolding over_weight_in over_weight_at
  takes_found t p x h read over =
      search_found _ _ (over_weight_at s t) p refl h (simp (lt-ltb 1000 (takes_at s t p) (omega arith)))

  pub gives_found : (t p x : ℕ) → p < places_of s → x ≡ gives_at s t p → 1000 < x → true ≡ over_weight_in s t
  unfolding over_weight_in over_weight_at
  gives_found t p x h read over =
      search_found _ _ (over_weight_at s t) p refl h (simp (lt-ltb 1000 (gives_at s t p) (omega arith), or-true))

  pub weights_more : (t p x y : ℕ) → any p (over_weight_at s t) ≡ false → x ≡ takes_at s t p → x ≤ 1000 → y ≡ gives_at s t p → y ≤ 1000
      → any (p + 1) (over_weight_at s t) ≡ false
  unfolding over_weight_at
  weights_more t p x y none x-read h y-read k =
      search_more (over_weight_at s t) p none (simp (le-ltb 1000 (takes_at s t p) (omega arith), le-ltb 1000 (gives_at s t p) (omega arith)))

  pub weight_found : (t : ℕ) (x : Bool) → any t (over_weight_in s) ≡ false → t < transitions_of s → x ≡ over_weight_in s t → x ≡ true → fault_at 6 t ≡ tell 6 (over_weight s)
  unfolding over_weight
  weight_found t x none h read over = item_found 6 (over_weight_in s) _ _ t refl h none (told read over) refl

  pub weight_more : (t : ℕ) (x : Bool) → any t (over_weight_in s) ≡ false → x ≡ over_weight_in s t → x ≡ false → any (t + 1) (over_weight_in s) ≡ false
  weight_more t x none read right = search_more (over_weight_in s) t none (told read right)

  -- 7
  pub label_found : (v x : ℕ) → any v (no_transition_at s) ≡ false → v < events_of s → x ≡ label_at s v → transitions_of s ≤ x → fault_at 7 v ≡ tell 7 (no_transition s)
  unfolding no_transition no_transition_at
  label_found v x none h read over =
      item_found 7 (no_transition_at s) _ _ v refl h none (le-leb (transitions_of s) (label_at s v) (omega arith)) refl

  pub label_more : (v x : ℕ) → any v (no_transition_at s) ≡ false → x ≡ label_at s v → x < transitions_of s → any (v + 1) (no_transition_at s) ≡ false
  unfolding no_transition_at
  label_more v x none read right =
      search_more (no_transition_at s) v none (lt-leb (transitions_of s) (label_at s v) (omega arith))

  -- 8
  pub earlier_found : (i x : ℕ) → any i (no_event_at s) ≡ false → i < pairs_of s → x ≡ earlier_at s i → events_of s ≤ x → fault_at 8 i ≡ tell 8 (no_event s)
  unfolding no_event no_event_at
  earlier_found i x none h read over =
      item_found 8 (no_event_at s) _ _ i refl h none (simp (le-leb (events_of s) (earlier_at s i) (omega arith))) refl

  pub later_found : (i x : ℕ) → any i (no_event_at s) ≡ false → i < pairs_of s → x ≡ later_at s i → events_of s ≤ x → fault_at 8 i ≡ tell 8 (no_event s)
  unfolding no_event no_event_at
  later_found i x none h read over =
      item_found 8 (no_event_at s) _ _ i refl h none (simp (le-leb (events_of s) (later_at s i) (omega arith), or-true)) refl

  pub ends_more : (i x y : ℕ) → any i (no_event_at s) ≡ false → x ≡ earlier_at s i → x < events_of s → y ≡ later_at s i → y < events_of s
      → any (i + 1) (no_event_at s) ≡ false
  unfolding no_event_at
  ends_more i x y none x-read h y-read k =
      search_more (no_event_at s) i none (simp (lt-leb (events_of s) (earlier_at s i) (omega arith), lt-leb (events_of s) (later_at s i) (omega arith)))

  -- 9
  pub self_found : (i x y : ℕ) → any i (self_pair_at s) ≡ false → i < pairs_of s → x ≡ earlier_at s i → y ≡ later_at s i → x ≡ y → fault_at 9 i ≡ tell 9 (self_pair s)
  unfolding self_pair self_pair_at
  self_found i x y none h x-read y-read e =
      item_found 9 (self_pair_at s) _ _ i refl h none (eq-eqb (earlier_at s i) (later_at s i) (sym x-read ∙ e ∙ y-read)) refl

  pub apart_more : (i x y : ℕ) → any i (self_pair_at s) ≡ false → x ≡ earlier_at s i → y ≡ later_at s i → ¬ (x ≡ y) → any (i + 1) (self_pair_at s) ≡ false
  unfolding self_pair_at
  apart_more i x y none x-read y-read n =
      search_more (self_pair_at s) i none (ne_eqb (earlier_at s i) (later_at s i) (λ e. n (x-read ∙ e ∙ sym y-read)))
