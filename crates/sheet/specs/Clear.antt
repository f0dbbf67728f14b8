-- The converse of `laid` and of `faultless`: a sheet that stands and says what it should has no fault.
use Prim.Native.Nat.{ℕ, ◌<◌}
use Rattle.std.proofs.Common.{◌∙◌}
use Rattle.std.proofs.Math.Bool.{false, ◌||◌}
use Rattle.std.specs.Prelude.{List, [], ◌∷◌, ◌++◌, ◌≡◌, refl}
use Rattle.std.proofs.Math.Option.{Option}
use Rattle.std.proofs.Math.Path.{ap, ap₂}
use borrow.Author.Tests.{lt-leb, ne_eqb}
use Rattle.sheet.specs.Table.{events_of, pairs_of}
use Rattle.sheet.specs.Items.{earlier_at, later_at}
use Rattle.sheet.specs.Faults.{no_event_at, self_pair_at}
use Rattle.sheet.specs.Faults.{Finder, first_fault}
use Rattle.sheet.specs.Faultless.{Absent, GoodNumbers, Faultless}
use Rattle.sheet.specs.Told.{no_fault, tell, else_next}

-- no fault of a list is told where none is there
pub none_first : (fs : List (ℕ × Finder)) (s : List ℕ) → Absent fs s → first_fault fs s ≡ no_fault
unfolding first_fault
none_first [] s a = refl
none_first (f ∷ fs) s a =
    else_next (tell f.0 (f.1 s)) (first_fault fs s) (ap (λ (o : Option ℕ). (tell f.0 o).number) a.0) ∙ none_first fs s a.1

-- two lists of faults, one after the other
pub absent_both : (fs gs : List (ℕ × Finder)) (s : List ℕ) → Absent fs s → Absent gs s → Absent (fs ++ gs) s
absent_both [] gs s a b = b
absent_both (f ∷ fs) gs s a b = (a.0, absent_both fs gs s a.1 b)

module _ (s : List ℕ) (known : Faultless s) where
  pub good_of : GoodNumbers s
  good_of = record { openings = known.openings; takes = known.takes; gives = known.gives; labels = known.labels }

  -- pair by pair, none of faults 8, 9 and 10
  pub names_events : (i : ℕ) → i < pairs_of s → no_event_at s i ≡ false
  unfolding no_event_at
  names_events i l =
      ap₂ ◌||◌ (lt-leb (events_of s) (earlier_at s i) (known.earlier i l)) (lt-leb (events_of s) (later_at s i) (known.later i l))

  pub names_different : (i : ℕ) → i < pairs_of s → self_pair_at s i ≡ false
  unfolding self_pair_at
  names_different i l = ne_eqb (earlier_at s i) (later_at s i) (known.apart i l)
