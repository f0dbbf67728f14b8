-- The verdict on the first places, one place after another.
use Prim.Native.Nat.{ℕ, ◌+◌, ◌<◌}
use native.Mathlib.Numerals.{add-one}
use native.Mathlib.Omega.{arith}
use mathlib.Core.Bool.{Bool, true, false}
use mathlib.Core.Option.{Option, none, some}
use mathlib.Core.Path.{◌≡◌, refl, sym, ap, ap₂, ◌∙◌}
use borrow.Author.Tests.{lt-ltb, le-ltb}
use lib.Dec.{ltb}
use Rattle.finite.specs.First.{first, or_here}
use Rattle.ids.specs.declared.Place.{Place}
use Rattle.summary.specs.declared.Verdict.{Verdict}
use Rattle.summary.specs.declared.Verdict.TheVariants.{Runs, Short}
use Rattle.summary.specs.Summary.{first_short, short_number, short_count, verdict_number, verdict_count, VerdictOf, NextVerdict}

module _ (missing : ℕ → ℕ) where
  -- one place more: what the first short place is then
  first_more : (p : ℕ) → first_short missing (p + 1) ≡ or_here (first_short missing p) (ltb 0 (missing p)) p
  unfolding first
  first_more p = rw (add-one p) refl

  after : (p : ℕ) (o : Option ℕ) (b : Bool) → first_short missing p ≡ o → ltb 0 (missing p) ≡ b → first_short missing (p + 1) ≡ or_here o b p
  after p o b found tested = first_more p ∙ ap₂ (λ (x : Option ℕ) (c : Bool). or_here x c p) found tested

  told : (n : ℕ) (o : Option ℕ) (v : Verdict) → first_short missing n ≡ o → verdict_number v ≡ short_number o → verdict_count v ≡ short_count missing o → VerdictOf missing n v
  told n o v found number count = (number ∙ sym (ap short_number found), count ∙ sym (ap (short_count missing) found))

  pub none_yet : (n : ℕ) → n ≡ 0 → VerdictOf missing n Runs
  unfolding first
  none_yet n e = rw e (refl, refl)

  module _ (p m : ℕ) (is : missing p ≡ m) where
    -- the first short place stays, whatever comes after it
    stays_by : (o : Option ℕ) (q : Place) (k : ℕ) → first_short missing p ≡ o → 1000 + q.0 ≡ short_number o → k ≡ short_count missing o → VerdictOf missing (p + 1) (Short q k)
    stays_by none q k found number count = absurd (omega arith)
    stays_by (some i) q k found number count = told (p + 1) (some i) (Short q k) (after p (some i) (ltb 0 (missing p)) found refl) number count

    stays : (q : Place) (k : ℕ) → VerdictOf missing p (Short q k) → VerdictOf missing (p + 1) (Short q k)
    stays q k v = stays_by (first_short missing p) q k refl v.0 v.1

    -- a place that lacks something is the first short one where none was,
    here_by : (o : Option ℕ) (q : Place) → first_short missing p ≡ o → 0 ≡ short_number o → q.0 ≡ p → 0 < m → VerdictOf missing (p + 1) (Short q m)
    here_by none q found number at lacks =
        told (p + 1) (some p) (Short q m) (after p none true found (lt-ltb 0 (missing p) (omega (arith, is)))) (omega arith) (sym is)
    here_by (some i) q found number at lacks = absurd (omega arith)

    -- and one that lacks nothing changes nothing
    nothing_by : (o : Option ℕ) → first_short missing p ≡ o → 0 ≡ short_number o → m ≡ 0 → VerdictOf missing (p + 1) Runs
    nothing_by none found number lacks =
        told (p + 1) none Runs (after p none false found (le-ltb 0 (missing p) (omega (arith, is)))) refl refl
    nothing_by (some i) found number lacks = absurd (omega arith)

    nothing : (v : Verdict) → m ≡ 0 → VerdictOf missing p v → VerdictOf missing (p + 1) v
    nothing Runs lacks v = nothing_by (first_short missing p) refl v.0 lacks
    nothing (Short q k) lacks v = stays q k v

pub same_after : (v : Verdict) (p m : ℕ) → m ≡ 0 → NextVerdict v p m v
same_after v p m lacks = λ missing is before. nothing missing p m is v lacks before

pub short_after : (p : Place) (m : ℕ) → 0 < m → NextVerdict Runs p.0 m (Short p m)
short_after p m lacks = λ missing is before. here_by missing p.0 m is (first_short missing p.0) p refl before.0 refl lacks

pub kept_after : (q : Place) (k p m : ℕ) → NextVerdict (Short q k) p m (Short q k)
kept_after q k p m = λ missing is before. stays missing p m is q k before
