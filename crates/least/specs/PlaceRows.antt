-- The rows of a place before it is settled: what each event gives and takes there, and what is before what. No sheet is needed for them.
use Rattle.std.specs.Prelude.{ℕ, ◌+◌, ◌*◌, ◌/◌, ◌%◌, ◌≤◌, ◌<◌, List, ◌≡◌, T, ltb, length, get_or, replicate}
use Rattle.std.proofs.Common.{arith, ⊎_elim, ap, subst, ◌∙◌, ltb→lt, nltb→le}
use Rattle.finite.specs.Bounded.{decide}
use Rattle.finite.specs.Filled.{Filled}
use Rattle.finite.specs.Sum.{sum_zero, on_no}
use Rattle.ids.specs.Limits.{most_events, row_words}
use Rattle.marks.specs.Marks.{marked, bit, bit_none, none_marked}
use Rattle.plan.specs.Net.{Net, Plan, taken_by, given_by}
use Rattle.plan.specs.Order.{Sound}
use Rattle.closure.specs.PlanRows.{Predecessors}
use Rattle.tokenflow.specs.Rows.{fed_by, Rows}
use Rattle.tokenflow.specs.Flowing.{Flowing, given_in, taken_in}
use Rattle.drawing.specs.Moves.{Order}

-- The first n numbers of a row are at most 1,000 each, so that their sum fits.
pub record Small (row : List ℕ) (n : ℕ) : Type 0 where
  pub most : (i : ℕ) → i < n → get_or row i 0 ≤ 1000

-- The rows are those of the place p: row w of `pred` marks what is before w, `free` has what each event gives, and `share` what it takes.
pub record PlaceRows (N : Net) (P : Plan) (p n : ℕ) (pred free share : List ℕ) : Type 0 where
  pub sound : Sound P
  pub events : n ≡ P.events
  pub few : n ≤ most_events
  pub before : Predecessors P pred
  pub gives : (v : ℕ) → v < n → get_or free v 0 ≡ given_by N P p v
  pub takes : (v : ℕ) → v < n → get_or share v 0 ≡ taken_by N P p v
  pub small_gives : Small free n
  pub small_takes : Small share n

-- They are those of some place.
abbrev pub SomePlace : ℕ → List ℕ → List ℕ → List ℕ → Type 0
SomePlace n pred free share = (N : Net) × (P : Plan) × (p : ℕ) × PlaceRows N P p n pred free share

-- what is before an event is an event
pub rows_order : (N : Net) (P : Plan) (p n : ℕ) (pred free share : List ℕ) → PlaceRows N P p n pred free share → Order n pred
rows_order N P p n pred free share at = record { events = λ w u l t. omega (arith, at.events, at.before.only w u l t) }

-- Nobody from n on feeds another.
pub record UnfedFrom (n : ℕ) (fed : List ℕ) : Type 0 where
  pub none : (u w : ℕ) → n ≤ u → u < most_events → w < most_events → T (marked fed u w) → ⊥

-- Working rows for n events: an amount for each of them and any event, and marks that can be cleared by clearing theirs.
abbrev pub RowsFor : ℕ → List ℕ → List ℕ → Type 0
RowsFor n amount fed = (n * most_events ≤ length amount) × UnfedFrom n fed

-- a row of 0 has no mark
pub zeros_unfed : (n k : ℕ) → UnfedFrom n (replicate k 0)
zeros_unfed n k = record { none = λ u w l lu lw t. subst T (none_marked k u w) t }

-- a tokenflow of n events leaves the others alone
pub flow_unfed : (n k : ℕ) (pred : List ℕ) (r : Rows) → n ≡ k → Flowing k pred r → UnfedFrom n r.fed
flow_unfed n k pred r e f = record { none = λ u w l lu lw t. absurd (omega (arith, e, (f.named u w lu lw t).0)) }

-- Before anything is drawn nobody is fed.
abbrev pub Unfed : List ℕ → Type 0
Unfed fed = UnfedFrom 0 fed

-- words of 0 have no mark
pub cleared_unfed : (n : ℕ) (old fed : List ℕ) → UnfedFrom n old → Filled (λ i. 0) (n * row_words) old fed → Unfed fed
unfolding marked
cleared_unfed n old fed before h =
    record {
      none = λ u w l lu lw t.
          ⊎_elim
          (λ below.
          subst T (ap (λ (x : ℕ). bit x (w % 32)) (h.numbers (u * 8 + w / 32) (omega (arith, ltb→lt u n below))) ∙ bit_none (w % 32)) t)
          (λ above.
          let from = nltb→le u n above in
          before.none u w from lu lw (subst T (ap (λ (x : ℕ). bit x (w % 32)) (h.rest (u * 8 + w / 32) (omega (arith, from)))) t))
          (decide (ltb u n));
    }

module _ (n : ℕ) (r : Rows) (few : n ≤ most_events) (unfed : Unfed r.fed) where
  none_fed : (u w : ℕ) → u < n → w < n → fed_by r.amount r.fed u w ≡ 0
  unfolding fed_by
  none_fed u w lu l = on_no (marked r.fed u w) _ (unfed.none u w (omega arith) (omega arith) (omega arith))

  -- so each event gives what it has free, and takes what it lacks
  pub unfed_gives : (u : ℕ) → u < n → given_in n r u ≡ get_or r.free u 0
  unfolding given_in
  unfed_gives u l = omega (arith, sum_zero n (λ w. fed_by r.amount r.fed u w) (λ w k. none_fed u w l k))

  pub unfed_takes : (w : ℕ) → w < n → taken_in n r w ≡ get_or r.share w 0
  unfolding taken_in
  unfed_takes w l = omega (arith, sum_zero n (λ u. fed_by r.amount r.fed u w) (λ u k. none_fed u w k l))

  -- that is a tokenflow, whatever is before what
  pub unfed_flows : (pred : List ℕ) → n * most_events ≤ length r.amount → Small r.free n → Small r.share n → Flowing n pred r
  unfed_flows pred room g t =
      record {
        events = few;
        room = room;
        exact = record { flows = λ u w lu lw m. absurd (unfed.none u w (omega arith) lu lw m) };
        named = λ u w lu lw m. absurd (unfed.none u w (omega arith) lu lw m);
        ordered = λ u w lu lw m. absurd (unfed.none u w (omega arith) lu lw m);
        gives_fit = λ u l. omega (arith, unfed_gives u l, g.most u l);
        takes_fit = λ w l. omega (arith, unfed_takes w l, t.most w l);
      }
