-- What a settled place hands over, where it runs and where it is short.
use Prim.Native.Nat.{ℕ, ◌+◌, ◌-◌, ◌≤◌, ◌<◌}
use native.Mathlib.Omega.{arith}
use mathlib.Core.Bool.{cond, not, ◌&&◌}
use mathlib.Core.List.{List, ◌++◌}
use mathlib.Core.Logic.{⊎_elim}
use mathlib.Core.Path.{◌≡◌, sym, ap, ap₂, subst, ◌∙◌}
use borrow.Author.Tests.{le-ltb}
use lib.Dec.{T, ltb, ltb→lt, nltb→le, leb→le}
use lib.ListN.{length, get_or, drop, replicate, length-append, length-drop, length-replicate, get_or-append}
use lib.Seq.{get_or-drop, get_or-append-add}
use lib.IntN.{ℤ, pos, negsuc, neg_ℤ}
use lib.Signed.{◌≤ℤ◌}
use mir.Syntax.{w32}
use mir.Val.{SFits}
use Rattle.finite.specs.Bounded.{decide}
use Rattle.finite.specs.Filled.{Filled}
use Rattle.finite.specs.Row.{zeros}
use Rattle.finite.specs.Subset.{Set}
use Rattle.plan.specs.Net.{Net, Plan}
use Rattle.plan.specs.Flow.{valid}
use Rattle.plan.specs.Prefix.{missing, smallest}
use Rattle.sheet.specs.Faultless.{Faultless}
use Rattle.sheet.specs.Items.{net_of, plan_of}
use Rattle.sheet.specs.Table.{places_of, events_of, pairs_of}
use Rattle.order.specs.Rows.{OrderRows}
use Rattle.tokenflow.specs.Rows.{Rows, rows, fed_by}
use Rattle.tokenflow.specs.Flowing.{Flowing, lacking}
use Rattle.search.specs.Row.{members}
use Rattle.calls.specs.FlowRow.{flow_length, flow_of}
use Rattle.calls.specs.Overwritten.{overwritten, filled_is}
use Rattle.done_set.specs.Mark.{mark_in}
use Rattle.place.specs.Bounds.{spare_from, spare_to}
use Rattle.place.specs.Judged.{Judged, JudgedIn}
use Rattle.place.specs.Place.{spare_at}
use Rattle.fold.specs.Folded.{Folded}
use Rattle.fold.specs.Feeding.{Foldable}
use Rattle.fold.specs.FromSheet.{sheet_foldable}
use Rattle.skeleton.specs.Linked.{Linked}
use Rattle.fold.specs.Written.{numbers_of, SharesFrom, written_valid}
use Rattle.handing.specs.Handed.{done_mark, valid_at, Written}

-- a spare count fits with its sign
small_spare : (z : ℤ) → neg_ℤ (pos 256000) ≤ℤ z → z ≤ℤ pos 1000000 → SFits w32 z
small_spare (pos n) h k = record { sfits = omega (arith, leb→le n 1000000 k.le) }
small_spare (negsuc n) h k = record { sfits = omega (arith, leb→le n 255999 h.le) }

pub spare_fits : (s : List ℕ) → Faultless s → (p : ℕ) → p < places_of s → SFits w32 (spare_at s p)
spare_fits s known p here = small_spare (spare_at s p) (spare_from s known p here) (spare_to s known p here)

-- the first k numbers of a row cleared
pub filled_zeros : (k n : ℕ) (row part : List ℕ) → k ≡ n → n ≤ length row → part ≡ replicate k 0 → Filled (λ i. 0) n row (part ++ drop k row)
filled_zeros k n row part same long is =
    record {
      size = length-append part (drop k row) ∙ omega (arith, same, size, length-drop k row);
      numbers = λ i l. get_or-append part (drop k row) 0 i (omega (arith, same, size)) ∙ ap (λ (r : List ℕ). get_or r i 0) is ∙ zeros k i;
      rest = λ i l.
          let at : k + (i - k) ≡ i = omega (arith, same) in
          ap (λ (n : ℕ). get_or (part ++ drop k row) n 0) (sym at) ∙ later (i - k) ∙ get_or-drop k row (i - k) 0 ∙ ap (λ (n : ℕ). get_or row n 0) at;
    }
  where
    size : length part ≡ k
    size = ap length is ∙ length-replicate k 0

    later : (v : ℕ) → get_or (part ++ drop k row) (k + v) 0 ≡ get_or (drop k row) v 0
    later v = ap (λ (n : ℕ). get_or (part ++ drop k row) (n + v) 0) (sym size) ∙ get_or-append-add part (drop k row) v 0

filled_as : (f g : ℕ → ℕ) (k l : ℕ) (old new : List ℕ) → k ≡ l → ((i : ℕ) → f i ≡ g i) → Filled f k old new → new ≡ overwritten g l old
filled_as f g k l old new e same h =
    filled_is
    g
    l
    old
    new
    (record {
      size = h.size;
      numbers = λ i m. h.numbers i (omega (arith, e)) ∙ same i;
      rest = λ i m. h.rest i (omega (arith, e));
    })

-- The marks of a set are those of the done set that is due, if it is that set where something is missing.
module _ (N : Net) (P : Plan) (p : ℕ) (D : Set) (m : ℕ) (count : m ≡ missing N P p) (set : 0 < missing N P p → smallest N P p ≡ D) where
  mark_due : (v : ℕ) → mark_in m D v ≡ done_mark N P p v
  unfolding mark_in done_mark
  mark_due v = ⊎_elim some none (decide (ltb 0 m))
    where
      some : T (ltb 0 m) → cond {A = ℕ} (ltb 0 m && D v) 1 0 ≡ cond (ltb 0 (missing N P p) && smallest N P p v) 1 0
      some t =
          let short : 0 < missing N P p = omega (arith, count, ltb→lt 0 m t) in
          ap₂ (λ (k : ℕ) (E : Set). cond {A = ℕ} (ltb 0 k && E v) 1 0) count (sym (set short))

      none : T (not (ltb 0 m)) → cond {A = ℕ} (ltb 0 m && D v) 1 0 ≡ cond (ltb 0 (missing N P p) && smallest N P p v) 1 0
      none t = let few = nltb→le 0 m t in simp (le-ltb 0 m few, le-ltb 0 (missing N P p) (omega (arith, count, few)))

pub marks_done_lem : {N : Net} {P : Plan} {p : ℕ} {pred : List ℕ} {r : Rows} {givers : List ℕ} {m n k : ℕ} {marks marks' : List ℕ}
    → Judged N P p pred r givers m → n ≡ k → Filled (mark_in m (members givers)) n marks marks' → marks' ≡ overwritten (done_mark N P p) k marks
marks_done_lem {N} {P} {p} {pred} {r} {givers} {m} j e h =
    filled_as _ (done_mark N P p) _ _ _ _ e (mark_due N P p (members givers) m j.count j.set) h

module _ (s : List ℕ) (p : ℕ) (pred : List ℕ) (r : Rows) (givers : List ℕ) (m : ℕ) (j : Judged (net_of s) (plan_of s) p pred r givers m)
    (flow flow' : List ℕ) where
  pub runs_flow : (share : List ℕ) → m ≡ 0 → T (valid (net_of s) (plan_of s) p (flow_of flow')) → SharesFrom (pairs_of s) flow flow' share (events_of s)
      → Written s p flow flow'
  runs_flow share none right h =
      record { size = h.size; rest = h.rest; runs = λ _. right; short = λ some. absurd (omega (arith, j.count, none, some)) }

  pub short_flow : ¬ (m ≡ 0) → Filled (λ i. 0) (flow_length s) flow flow' → Written s p flow flow'
  short_flow some h =
      record {
        size = h.size;
        rest = h.rest;
        runs = λ none. absurd (omega (arith, j.count, none, some));
        short = λ _. filled_is (λ i. 0) (flow_length s) flow flow' h;
      }

-- The rows of a judged place can be folded onto the skeleton pairs, and where nothing is missing that makes a valid flow.
module _ (s : List ℕ) (known : Faultless s) (p : ℕ) (here : p < places_of s) {n : ℕ} (e : n ≡ events_of s)
    (pred amount fed share givers : List ℕ) (m : ℕ) (j : JudgedIn s p pred amount fed share givers m) where
  pub judged_foldable : (succ skel index : List ℕ) → OrderRows (plan_of s) succ pred → Linked (plan_of s) (pairs_of s) skel index
      → Foldable (plan_of s) n succ skel index amount fed
  judged_foldable succ skel index order linked =
      let flowing = subst (λ (k : ℕ). Flowing k pred (rows amount fed j.0 share)) (sym e) j.1.flows in
      sheet_foldable s known p n here e succ pred skel index order linked (rows amount fed j.0 share) _ _ flowing j.1.flow

  pub judged_valid : (flow flow' : List ℕ) → m ≡ 0 → Folded (plan_of s) (fed_by amount fed) (numbers_of flow')
      → SharesFrom (pairs_of s) flow flow' share (events_of s) → T (valid_at s p flow')
  unfolding lacking
  judged_valid flow flow' none folded written =
      written_valid (net_of s) (plan_of s) p _ _ share flow flow' j.1.flow folded written (omega (arith, j.1.lacks, none))
