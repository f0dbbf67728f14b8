-- A sheet with no fault is faultless; and which lists of faults decide it.
use Rattle.std.specs.Prelude.{ℕ, ◌<◌, ◌≤◌, List, ◌≡◌, ltb, eqb}
use Rattle.std.proofs.Common.{◌∙◌, ltb-false, leb-false}
use Rattle.std.proofs.Math.Option.{none}
use Rattle.std.proofs.lemmas.Bool.{eqb-false}
use Rattle.std.proofs.Math.Facts.{yes_and, yes_eqb}
use Rattle.finite.proofs.First.{first_none}
use Rattle.finite.specs.Search.{search_none, fails}
use Rattle.sheet.specs.Table.{places_of, transitions_of, events_of, pairs_of}
use Rattle.sheet.specs.Items.{opening_at, takes_at, gives_at, label_at, earlier_at, later_at}
use Rattle.sheet.specs.Faults.{over_opening_at, over_opening, over_weight_at, over_weight_in, over_weight, no_transition_at, no_transition, self_pair_at, self_pair}
use Rattle.sheet.specs.Faults.{too_short, over_limit, late, early, wrong_end, repeated, same_pair, repeat_at, cycle_at, cyclic}
use Rattle.sheet.specs.Faults.{layout_faults, number_faults, pair_faults, order_faults, content_faults, faults, first_fault, fault_of}
use Rattle.sheet.specs.Chain.{first_both}
use Rattle.sheet.specs.Laid.{Laid}
use Rattle.sheet.proofs.Laid.{limited, placed, laid}
use Rattle.sheet.specs.Told.{else_next, else_first, plain_none}
use Rattle.sheet.specs.Faultless.{Absent, absent, GoodNumbers, Faultless, or_false, ends}

weights : (s : List ℕ) → over_weight s ≡ none → (t p : ℕ) → t < transitions_of s → p < places_of s → (takes_at s t p ≤ 1000) × (gives_at s t p ≤ 1000)
unfolding over_weight over_weight_in over_weight_at
weights s light t p l m =
    let both =
    or_false
    (ltb 1000 (takes_at s t p))
    (ltb 1000 (gives_at s t p))
    (search_none (places_of s) (over_weight_at s t) (first_none (over_weight_in s) (transitions_of s) light t l) p m)
    in
    (ltb-false 1000 (takes_at s t p) both.0, ltb-false 1000 (gives_at s t p) both.1)

no_repeat : (s : List ℕ) → repeated s ≡ none → (i j : ℕ) → i < j → j < pairs_of s → earlier_at s i ≡ earlier_at s j → ¬ (later_at s i ≡ later_at s j)
unfolding repeated repeat_at same_pair
no_repeat s once i j l m e d =
    fails
    (same_pair s j i)
    (search_none j (same_pair s j) (first_none (repeat_at s) (pairs_of s) once j m) i l)
    (yes_and (eqb (earlier_at s i) (earlier_at s j)) (eqb (later_at s i) (later_at s j)) (yes_eqb e) (yes_eqb d))

-- the bodies stand where they should
pub stand : (s : List ℕ) → Absent layout_faults s → Laid s
unfolding layout_faults
stand s a =
    laid
    s
    (limited s (plain_none (too_short s) a.0) (plain_none (over_limit s) a.1.0))
    (placed s (plain_none (late s) a.1.1.0) (plain_none (early s) a.1.1.1.0))
    (plain_none (wrong_end s) a.1.1.1.1.0)

-- faults 5, 6 and 7 are absent
pub good_numbers : (s : List ℕ) → Absent number_faults s → GoodNumbers s
unfolding number_faults over_opening over_opening_at no_transition no_transition_at
good_numbers s a =
    record {
      openings = λ p l. ltb-false 1000000 (opening_at s p) (first_none (over_opening_at s) (places_of s) a.0 p l);
      takes = λ t p l m. (weights s a.1.0 t p l m).0;
      gives = λ t p l m. (weights s a.1.0 t p l m).1;
      labels = λ v l. leb-false (transitions_of s) (label_at s v) (first_none (no_transition_at s) (events_of s) a.1.1.0 v l);
    }

pub faultless : (s : List ℕ) → (fault_of s).number ≡ 0 → Faultless s
unfolding fault_of faults layout_faults number_faults pair_faults order_faults content_faults self_pair self_pair_at cyclic cycle_at
faultless s e =
    let a = absent faults s (tt, (tt, (tt, (tt, (tt, (tt, (tt, (tt, (tt, (tt, (tt, (tt, tt)))))))))))) e in
    let b = a.1.1.1.1.1 in
    let good = good_numbers s (b.0, (b.1.0, (b.1.1.0, tt))) in
    record {
      laid = stand s (a.0, (a.1.0, (a.1.1.0, (a.1.1.1.0, (a.1.1.1.1.0, tt)))));
      openings = good.openings;
      takes = good.takes;
      gives = good.gives;
      labels = good.labels;
      earlier = λ i l. (ends s b.1.1.1.0 i l).0;
      later = λ i l. (ends s b.1.1.1.0 i l).1;
      apart = λ i l. eqb-false (earlier_at s i) (later_at s i) (first_none (self_pair_at s) (pairs_of s) b.1.1.1.1.0 i l);
      once = no_repeat s b.1.1.1.1.1.0;
      acyclic = λ v l. search_none (events_of s) (cycle_at s) (plain_none (cyclic s) b.1.1.1.1.1.1.0) v l;
    }

-- The faults of the layout decide, or are absent and leave it to the rest.
pub layout_decides : (s : List ℕ) → ¬ ((first_fault layout_faults s).number ≡ 0) → fault_of s ≡ first_fault layout_faults s
unfolding fault_of faults
layout_decides s n = first_both layout_faults content_faults s ∙ else_first (first_fault layout_faults s) (first_fault content_faults s) n

layout_absent : (s : List ℕ) → (first_fault layout_faults s).number ≡ 0 → Absent layout_faults s
unfolding layout_faults
layout_absent s e = absent layout_faults s (tt, (tt, (tt, (tt, (tt, tt))))) e

pub layout_laid : (s : List ℕ) → (first_fault layout_faults s).number ≡ 0 → Laid s
layout_laid s e = stand s (layout_absent s e)

pub content_decides : (s : List ℕ) → (first_fault layout_faults s).number ≡ 0 → fault_of s ≡ first_fault content_faults s
unfolding fault_of faults
content_decides s e = first_both layout_faults content_faults s ∙ else_next (first_fault layout_faults s) (first_fault content_faults s) e
