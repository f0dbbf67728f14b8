-- Once faults 1, 2, 14, 15 and 4 are absent, a sheet is laid out as it should be.
use Rattle.std.specs.Prelude.{ℕ, ◌<◌, ◌≤◌, true, false, not, List, ◌≡◌, refl, eqb, ltb, length}
use Rattle.std.proofs.Common.{arith, true≢false, sym, ap, ◌∙◌, ltb-false, eq-eqb, eqb-true}
use Rattle.std.proofs.Math.Option.{Option, none, some}
use Rattle.std.proofs.lemmas.Bool.{not-false}
use Rattle.finite.proofs.First.{first_none, first_is}
use Rattle.finite.specs.Search.{search_none}
use Rattle.sheet.specs.Table.{start, count, limit, item_length, item, body_end, due}
use Rattle.sheet.specs.Faults.{too_short, over_limit_at, over_limit, misplaced_at, misplaced, late_at, late, early_at, early, wrong_end}
use Rattle.sheet.specs.Laid.{Limited, Laid, whole}

within : (s : List ℕ) → over_limit s ≡ false → (e : ℕ) → e < 4 → count s e ≤ limit e
unfolding over_limit over_limit_at
within s few e l = ltb-false (limit e) (count s e) (search_none 4 (over_limit_at s) few e l)

pub limited : (s : List ℕ) → too_short s ≡ false → over_limit s ≡ false → Limited s
unfolding limit
limited s long few =
    record {
      table = whole s long;
      places = within s few 0 (omega arith);
      transitions = within s few 1 (omega arith);
      events = within s few 2 (omega arith);
      pairs = within s few 3 (omega arith);
    }

-- a start that is neither above nor below what is due is right
apart : (s : List ℕ) (e : ℕ) → misplaced_at s e ≡ true → ltb (due s e) (start s e) ≡ false → ltb (start s e) (due s e) ≡ false → ⊥
unfolding misplaced_at
apart s e wrong low high =
    let same : start s e ≡ due s e = omega (arith, ltb-false (due s e) (start s e) low, ltb-false (start s e) (due s e) high) in
    true≢false (sym wrong ∙ ap not (eq-eqb (start s e) (due s e) same))

placed_by : (s : List ℕ) (o : Option ℕ) → misplaced s ≡ o → late_at s o ≡ false → early_at s o ≡ false → misplaced s ≡ none
unfolding misplaced
placed_by s none is low high = is
placed_by s (some e) is low high = absurd (apart s e (first_is (misplaced_at s) 4 e is).passes low high)

-- 14 and 15 are absent
pub placed : (s : List ℕ) → late s ≡ false → early s ≡ false → misplaced s ≡ none
unfolding late early
placed s low high = placed_by s (misplaced s) refl low high

pub starts : (s : List ℕ) → misplaced s ≡ none → (e : ℕ) → e < 4 → start s e ≡ due s e
unfolding misplaced misplaced_at
starts s right e l =
    eqb-true (start s e) (due s e) (not-false (eqb (start s e) (due s e)) (first_none (misplaced_at s) 4 right e l))

pub laid : (s : List ℕ) → Limited s → misplaced s ≡ none → wrong_end s ≡ false → Laid s
unfolding due body_end item item_length wrong_end
laid s known right ends =
    record {
      limited = known;
      places_start = starts s right 0 (omega arith);
      transitions_start = starts s right 1 (omega arith);
      events_start = starts s right 2 (omega arith);
      pairs_start = starts s right 3 (omega arith);
      end = eqb-true (length s) (body_end s 3) (not-false (eqb (length s) (body_end s 3)) ends);
    }
