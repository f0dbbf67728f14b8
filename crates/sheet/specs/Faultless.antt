-- What is known of a sheet with no fault: its numbers are within their limits, its names name something, and its plan is sound and labelled.
use Rattle.std.specs.Prelude.{ℕ, ◌<◌, ◌≤◌, Bool, true, false, ◌||◌, List, [], ◌∷◌, ◌≡◌, refl, T, leb, ltb}
use Rattle.std.proofs.Common.{arith, true≢false, sym, ap, ◌∙◌, leb-false, ltb→lt}
use Rattle.std.proofs.Math.Option.{Option, none, some}
use Rattle.finite.proofs.First.{first_none}
use Rattle.finite.specs.Search.{fails}
use Rattle.plan.specs.Net.{Plan, Labelled}
use Rattle.plan.specs.Order.{Before, pair, chain, before, Sound}
use Rattle.plan.proofs.Closure.{before_test}
use Rattle.sheet.specs.Table.{places_of, transitions_of, events_of, pairs_of}
use Rattle.sheet.specs.Items.{opening_at, takes_at, gives_at, label_at, earlier_at, later_at, net_of, plan_of}
use Rattle.sheet.specs.Faults.{no_event_at, no_event, Finder, first_fault}
use Rattle.sheet.specs.Laid.{Laid}
use Rattle.sheet.specs.Told.{no_fault, fault_at, tell, or_else, else_next, else_first, Told}

-- no fault of a list is there
abbrev pub Absent : List (ℕ × Finder) → List ℕ → Type 0
Absent [] s = Unit
Absent (f ∷ fs) s = (f.1 s ≡ none) × Absent fs s

-- the numbers of a list of faults are above 0
abbrev pub Numbered : List (ℕ × Finder) → Type 0
Numbered [] = Unit
Numbered (f ∷ fs) = T (ltb 0 f.0) × Numbered fs

passed : (k : ℕ) (o : Option ℕ) (rest : Told) → 0 < k → (or_else (tell k o) rest).number ≡ 0 → (o ≡ none) × (rest.number ≡ 0)
passed k none rest l e = (refl, ap (λ (f : Told). f.number) (sym (else_next no_fault rest refl)) ∙ e)
passed k (some i) rest l e =
    let first = else_first (fault_at k i) rest (λ z. omega arith) in
    absurd (omega (arith, ap (λ (f : Told). f.number) first))

pub absent : (fs : List (ℕ × Finder)) (s : List ℕ) → Numbered fs → (first_fault fs s).number ≡ 0 → Absent fs s
unfolding first_fault
absent [] s numbered e = tt
absent (f ∷ fs) s numbered e =
    let here = passed f.0 (f.1 s) (first_fault fs s) (ltb→lt 0 f.0 numbered.0) e in
    (here.0, absent fs s numbered.1 here.1)

-- The numbers before the pairs are such as a sheet may have.
pub record GoodNumbers (s : List ℕ) : Type 0 where
  pub openings : (p : ℕ) → p < places_of s → opening_at s p ≤ 1000000
  pub takes : (t p : ℕ) → t < transitions_of s → p < places_of s → takes_at s t p ≤ 1000
  pub gives : (t p : ℕ) → t < transitions_of s → p < places_of s → gives_at s t p ≤ 1000
  pub labels : (v : ℕ) → v < events_of s → label_at s v < transitions_of s

pub record Faultless (s : List ℕ) : Type 0 where
  pub laid : Laid s
  pub openings : (p : ℕ) → p < places_of s → opening_at s p ≤ 1000000
  pub takes : (t p : ℕ) → t < transitions_of s → p < places_of s → takes_at s t p ≤ 1000
  pub gives : (t p : ℕ) → t < transitions_of s → p < places_of s → gives_at s t p ≤ 1000
  pub labels : (v : ℕ) → v < events_of s → label_at s v < transitions_of s
  pub earlier : (i : ℕ) → i < pairs_of s → earlier_at s i < events_of s
  pub later : (i : ℕ) → i < pairs_of s → later_at s i < events_of s
  pub apart : (i : ℕ) → i < pairs_of s → ¬ (earlier_at s i ≡ later_at s i)
  pub once : (i j : ℕ) → i < j → j < pairs_of s → earlier_at s i ≡ earlier_at s j → ¬ (later_at s i ≡ later_at s j)
  pub acyclic : (v : ℕ) → v < events_of s → before (plan_of s) v v ≡ false

pub or_false : (a b : Bool) → a || b ≡ false → (a ≡ false) × (b ≡ false)
or_false true b e = absurd (true≢false e)
or_false false b e = (refl, e)

pub ends : (s : List ℕ) → no_event s ≡ none → (i : ℕ) → i < pairs_of s → (earlier_at s i < events_of s) × (later_at s i < events_of s)
unfolding no_event no_event_at
ends s named i l =
    let both =
    or_false
    (leb (events_of s) (earlier_at s i))
    (leb (events_of s) (later_at s i))
    (first_none (no_event_at s) (pairs_of s) named i l)
    in
    (leb-false (events_of s) (earlier_at s i) both.0, leb-false (events_of s) (later_at s i) both.1)

-- what is before something is an event
starts_at_lem : (P : Plan) → ((i : ℕ) → i < P.pairs → P.earlier i < P.events) → {u v : ℕ} → Before P u v → u < P.events
starts_at_lem P named (pair i l) = named i l
starts_at_lem P named (chain b c) = starts_at_lem P named b

pub sound : (s : List ℕ) → Faultless s → Sound (plan_of s)
sound s known =
    record {
      earlier_named = known.earlier;
      later_named = known.later;
      acyclic = λ v b. fails (before (plan_of s) v v) (known.acyclic v (starts_at_lem (plan_of s) known.earlier b)) ((before_test (plan_of s) v v).1 b);
    }

pub labelled : (s : List ℕ) → Faultless s → Labelled (net_of s) (plan_of s)
labelled s known = record { named = known.labels }
