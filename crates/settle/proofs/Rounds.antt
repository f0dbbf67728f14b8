-- From a search to a walk that draws, or to the end.
use Prim.Native.Nat.{ℕ, ◌≤◌, ◌<◌}
use native.Mathlib.Omega.{arith}
use mathlib.Core.Bool.{Bool, true, false}
use mathlib.Core.List.{List}
use mathlib.Core.Logic.{⊎_elim}
use mathlib.Core.Path.{◌≡◌, refl, sym, subst, ◌∙◌}
use lib.Dec.{leb, leb→le, ltb, ltb→lt, T}
use mir.Facts.{yes_ltb}
use lib.ListN.{get_or}
use native.Mathlib.Nat.{eq-zero-or-pos}
use Rattle.finite.specs.Sum.{sum_of, sum_of_start, sum_of_more}
use Rattle.std.specs.List as list
use Rattle.std.proofs.lemmas.List.Sums.{sum_by_more}
use Rattle.std.proofs.Common.{take, length, add-one, zero, suc, ◌+◌}
use Rattle.tokenflow.specs.Rows.{Rows}
use Rattle.tokenflow.specs.Flowing.{lacking}
use Rattle.drawing.specs.Moves.{Moved}
use Rattle.marks.specs.Marks.{marked}
use Rattle.search.specs.Row.{in_marked, marked_in}
use Rattle.search.specs.Searched.{Searched}
use Rattle.search.specs.Trail.{◌!◌, Takers, Givers, takers_of, givers_of}
use Rattle.exchange.specs.Walk.{TrailRows, trail_rows, IsReady, Walked}
use Rattle.settle.specs.Finished.{Finished, FreeSaid, HasFree, Advanced, Rounded}

-- a giver that a search met and that has tokens free is ready
ready : {n : ℕ} {pred : List ℕ} (r : Rows) (m : TrailRows) {row : List ℕ} {tail : ℕ} {givers : List ℕ} {u : ℕ} → n ≤ 256
    → Searched pred r.fed r.share n (takers_of row m.queue m.origin tail) (givers_of givers m.via)
    → HasFree givers r.free n u → IsReady n pred m r u row tail givers
ready r m {u = u} few s h = (
  record {
    few = omega (arith, s.fits);
    takers = λ i l. s.takers (m.queue ! i) (s.queued.listed i l);
    once = s.queued.once;
    givers = s.givers;
    met = s.trail.met;
  },
  record {
    giver = h.met;
    free = h.some;
    reason = λ i l. s.trail.reason i (omega (arith, (s.trail.met u h.met).place));
  },
)

-- the last search
finish : {n : ℕ} {pred : List ℕ} (r : Rows) {t : Takers} {g : Givers} → Searched pred r.fed r.share n t g
    → ((u : ℕ) → HasFree g.row r.free n u → ⊥) → Finished n pred r t.row g.row
finish r s none =
    record {
      takers_named = s.takers;
      givers_named = s.givers;
      exhausted = s.exhausted;
      least = λ W E c u h. (s.trail.least W E c).1 u h;
      spent = λ u h.
          ⊎_elim
          (λ e. e)
          (λ l. absurd (none u (record { event = s.givers u h; met = h; some = l })))
          (eq-zero-or-pos (get_or r.free u 0));
    }

-- a walk from a giver with tokens free, and more moves
pub advance_some : {n : ℕ} {pred givers : List ℕ} {m : TrailRows} {r s r' : Rows} {u : ℕ} (drew : Bool) → n ≤ 256
    → HasFree givers r.free n u → Walked n pred m r s u drew → Moved n pred s r' → Advanced n pred givers m r r' true
advance_some {n} {pred} {givers} {m} {r} {s} {r'} {u} drew few h w k =
    record { less = λ e row tail x. less drew w row tail x; same = λ e. absurd (subst T e tt); none = λ e. absurd (subst T e tt) }
  where
    less : (b : Bool) → Walked n pred m r s u b → (row : List ℕ) (tail : ℕ)
        → Searched pred r.fed r.share n (takers_of row m.queue m.origin tail) (givers_of givers m.via)
        → lacking n r' < lacking n r
    less true w row tail x = omega (arith, k.lacks)
    less false w row tail x = absurd (w row tail givers (ready r m few x h))

-- what a search and the walks after it come to
pub rounded : {n : ℕ} {pred : List ℕ} {r r' : Rows} {t : Takers} {g : Givers} {moved : Bool}
    → Searched pred r.fed r.share n t g → Advanced n pred g.row (trail_rows t.queue t.origin g.via) r r' moved
    → Rounded n pred r r' t.row g.row moved
rounded {n} {pred} {r} {t = t} {g = g} s a =
    record {
      less = λ e. a.less e t.row t.tail s;
      last = λ e. subst (λ (x : Rows). Finished n pred x t.row g.row) (sym (a.same e)) (finish r s (a.none e));
    }

-- the first numbers of a list add up to their sum
pub sum_first : (xs : List ℕ) (n : ℕ) → n ≤ length xs → list.sum (take n xs) ≡ sum_of xs n
sum_first xs zero l = sym (sum_of_start xs)
sum_first xs (suc n) l =
    let before = sum_first xs n (omega arith) in
    let below : n < length xs = omega arith in
    let last : list.sum (take (n + 1) xs) ≡ list.sum (take n xs) + get_or xs n 0 = sum_by_more (λ x. x) xs n 0 below in
    rw (← add-one) (omega (arith, before, last, sum_of_more xs n))

-- what a test says of the shares, it says of what is lacking
pub covered : (n enough : ℕ) (r : Rows) {said : Bool} → said ≡ leb (sum_of r.share n) enough → said ≡ true → lacking n r ≤ enough
unfolding lacking sum_of
covered n enough r e h = leb→le (sum_of r.share n) enough (subst T e (subst T (sym h) tt))

-- what the tests of a mark and of what is free say of a giver
module _ (row free : List ℕ) (u : ℕ) {said : Bool} (e : said ≡ marked row 0 u) where
  pub said_unmet : said ≡ false → FreeSaid row free u said
  said_unmet h = rw h (λ there some. subst T (sym e ∙ h) (in_marked row u there))

  pub said_met : u < 256 → said ≡ true → (k : ℕ) → k ≡ get_or free u 0 → FreeSaid row free u (ltb 0 k)
  said_met below h k is = said_free (ltb 0 k) refl
    where
      said_free : (b : Bool) → ltb 0 k ≡ b → FreeSaid row free u b
      said_free true t = (marked_in row u below (subst T (sym (sym e ∙ h)) tt), omega (arith, is, ltb→lt 0 k (subst T (sym t) tt)))
      said_free false t = λ there some. subst T t (yes_ltb {a = 0} {b = k} (omega (arith, is, some)))
