-- What settled rows tell of a place: what the takers lack is the least opening count, or is within what is enough; and the givers met are
-- the smallest done set if something is missing.
use Rattle.std.specs.Prelude.{ℕ, ◌+◌, ◌-◌, ◌*◌, ◌≤◌, ◌<◌, List, ◌≡◌, T, leb}
use Rattle.std.proofs.Common.{arith, ◌∙◌, T_not, leb→le}
use Rattle.std.proofs.Math.Logic.{⊎_elim}
use Rattle.std.proofs.Math.Path.{sym, ap, subst}
use Rattle.std.proofs.Math.Dec.{nleb→lt}
use Rattle.std.proofs.Math.ListN.{get_or}
use Rattle.finite.specs.Bounded.{decide}
use Rattle.finite.specs.Sum.{sum, sum_of, on_no}
use Rattle.ids.specs.Limits.{most_events}
use Rattle.marks.specs.Marks.{marked}
use Rattle.plan.specs.Net.{Net, Plan}
use Rattle.plan.specs.Prefix.{least_opening, missing, smallest}
use Rattle.theory.specs.Skeleton.{before_earlier}
use Rattle.theory.specs.Missing.{missing_opening}
use Rattle.theory.specs.Tokenflow.{Tokenflow, Settled, least_within, settled_least}
use Rattle.theory.proofs.Tokenflow.{settled_smallest}
use Rattle.tokenflow.specs.Rows.{fed_by, Rows, rows}
use Rattle.tokenflow.specs.Flowing.{Flowing, Kept, given_in, taken_in, lacking}
use Rattle.drawing.specs.Moves.{Moved}
use Rattle.search.specs.Row.{members}
use Rattle.settle.specs.Finished.{Finished, Ended}
use Rattle.least.specs.PlaceRows.{PlaceRows, Small, Unfed, unfed_gives, unfed_takes}

-- The tokenflow that rows hold.
abbrev pub FlowOf : Net → Plan → ℕ → Rows → Type 0
FlowOf N P p r =
    Tokenflow N P p (fed_by r.amount r.fed) (λ u. get_or r.free u 0) (λ w. get_or r.share w 0)

-- What is known of a place when it is settled: what the takers lack, a tokenflow of that lack, that it is the least opening count if it
-- passes what is enough, and then the smallest done set if something is missing.
pub record PlaceSettled (N : Net) (P : Plan) (p enough : ℕ) (pred : List ℕ) (r : Rows) (givers : List ℕ) (lacks : ℕ) : Type 0 where
  pub sum : lacks ≡ lacking P.events r
  pub flows : Flowing P.events pred r
  pub flow : FlowOf N P p r
  pub least : least_opening N P p ≤ lacks
  pub exact : enough < lacks → least_opening N P p ≡ lacks
  pub set : enough < lacks → 0 < missing N P p → smallest N P p ≡ members givers

-- So it is in rows of the same numbers, whichever rows these are.
pub settled_rows : {N : Net} {P : Plan} {p enough : ℕ} {pred : List ℕ} {r : Rows} {givers : List ℕ} {lacks : ℕ}
    → PlaceSettled N P p enough pred r givers lacks → PlaceSettled N P p enough pred (rows r.amount r.fed r.free r.share) givers lacks
unfolding given_in taken_in lacking
settled_rows s =
    let f = s.flows in
    record {
      sum = s.sum;
      flows = record {
        events = f.events;
        room = f.room;
        exact = f.exact;
        named = f.named;
        ordered = f.ordered;
        gives_fit = f.gives_fit;
        takes_fit = f.takes_fit;
      };
      flow = s.flow;
      least = s.least;
      exact = s.exact;
      set = s.set;
    }

-- so it is for every place that has these rows
abbrev pub Settles : ℕ → List ℕ → Rows → Rows → List ℕ → ℕ → ℕ → Type 0
Settles n pred r r' givers enough lacks =
    (N : Net) (P : Plan) (p : ℕ) → PlaceRows N P p n pred r.free r.share → PlaceSettled N P p enough pred r' givers lacks

-- It tells what is missing if what is enough doesn't pass the opening count; with 0 for what is enough, it is the least opening count.
module _ (N : Net) (P : Plan) (p enough : ℕ) (pred : List ℕ) (r : Rows) (givers : List ℕ) (lacks : ℕ) (s : PlaceSettled N P p enough pred r givers lacks) where
  by_enough : {X : Type 0} → (enough < lacks → X) → (lacks ≤ enough → X) → X
  by_enough above within =
      ⊎_elim (λ t. within (leb→le lacks enough t)) (λ t. above (nleb→lt lacks enough t)) (decide (leb lacks enough))

  pub missing_told : enough ≤ N.opening p → lacks - N.opening p ≡ missing N P p
  missing_told few =
      by_enough
      (λ above. omega (arith, s.exact above, missing_opening N P p))
      (λ within. omega (arith, s.least, missing_opening N P p, few, within))

  pub least_told : enough ≡ 0 → lacks ≡ least_opening N P p
  least_told none = by_enough (λ above. sym (s.exact above)) (λ within. omega (arith, s.least))

  -- where something is missing, what the takers lack passes what is enough
  pub short_above : enough ≤ N.opening p → 0 < missing N P p → enough < lacks
  short_above few short = omega (arith, missing_told few, few, short)

-- ---- the rows at the start r₀, in which nobody is fed, and those that are settled, r
module _ (N : Net) (P : Plan) (p n : ℕ) (pred : List ℕ) (r₀ r : Rows) (at : PlaceRows N P p n pred r₀.free r₀.share) (unfed : Unfed r₀.fed) (moved : Moved n pred r₀ r) where
  flows : Flowing P.events pred r
  flows = subst (λ (k : ℕ). Flowing k pred r) at.events moved.flows

  -- a taker lacks no more than it takes
  pub small_lack : Small r.share n
  unfolding taken_in
  small_lack =
      record { most = λ i l. omega (arith, moved.kept.takes i l, unfed_takes n r₀ at.few unfed i l, at.small_takes.most i l) }

  abbrev y : ℕ → ℕ → ℕ
  y u w = fed_by r.amount r.fed u w

  near : (v : ℕ) → v < P.events → v < most_events
  near v l = omega (arith, at.events, at.few)

  here : (v : ℕ) → v < P.events → v < n
  here v l = omega (arith, at.events)

  -- tokens flow where the mark is set, and only there
  fed_flows : (u w : ℕ) → u < P.events → w < P.events → T (marked r.fed u w) → 0 < y u w
  fed_flows u w lu lw t = flows.exact.flows u w (near u lu) (near w lw) t

  is_fed : (u w : ℕ) → 0 < y u w → T (marked r.fed u w)
  unfolding fed_by
  is_fed u w l =
      ⊎_elim
      (λ t. t)
      (λ t. absurd (omega (arith, on_no (marked r.fed u w) (get_or r.amount (u * most_events + w) 0) (T_not (marked r.fed u w) t))))
      (decide (marked r.fed u w))

  kept : Kept P.events r₀ r
  kept = subst (λ (k : ℕ). Kept k r₀ r) at.events moved.kept

  pub rows_flow : FlowOf N P p r
  unfolding given_in taken_in
  rows_flow =
      record {
        gives = λ u l.
            let same = subst (λ (k : ℕ). given_in k r₀ u ≡ get_or r₀.free u 0) at.events (unfed_gives n r₀ at.few unfed u (here u l)) in
            sym (kept.gives u l) ∙ same ∙ at.gives u (here u l);
        takes = λ w l.
            let same = subst (λ (k : ℕ). taken_in k r₀ w ≡ get_or r₀.share w 0) at.events (unfed_takes n r₀ at.few unfed w (here w l)) in
            sym (kept.takes w l) ∙ same ∙ at.takes w (here w l);
        ordered = λ u w lu lw h. (at.before.marks w u lw lu).0 (flows.ordered u w (near u lu) (near w lw) (is_fed u w h));
      }

  module _ (takers givers : List ℕ) (d : Finished P.events pred r takers givers) where
    rows_settled : Settled P y (λ u. get_or r.free u 0) (λ w. get_or r.share w 0) (members takers) (members givers)
    rows_settled =
        record {
          takers = d.takers_named;
          givers = λ u t. (d.givers_named u t, d.spent u t);
          closed = record {
            roots = d.exhausted.roots;
            back = λ u w l t b. let k = before_earlier P at.sound b in d.exhausted.back w u l k t ((at.before.marks w u l k).1 b);
            onward = λ u w lu lw t h. d.exhausted.onward u w lu lw t (is_fed u w h);
          };
          generated = λ W E c u t.
              d.least
              W
              E
              (record {
                roots = c.roots;
                back = λ w u lw lu h m. c.back u w lw h ((at.before.marks w u lw lu).0 m);
                onward = λ u w lu lw h m. c.onward u w lu lw h (fed_flows u w lu lw m);
              })
              u
              t;
        }

  pub place_settled : (givers : List ℕ) (enough lacks : ℕ) → Ended n pred enough r givers → lacks ≡ sum_of r.share n
      → PlaceSettled N P p enough pred r givers lacks
  unfolding lacking sum_of
  place_settled givers enough lacks ended sums =
      let all = ap (λ (k : ℕ). sum k (λ i. get_or r.share i 0)) at.events in
      let total : lacks ≡ lacking P.events r = sums ∙ all in
      let within = least_within N P p at.sound y (λ u. get_or r.free u 0) (λ w. get_or r.share w 0) rows_flow in
      ⊎_elim
      (λ covered.
      record {
        sum = total;
        flows = flows;
        flow = rows_flow;
        least = omega (arith, within, total);
        exact = λ above. absurd (omega (arith, covered, above, sums));
        set = λ above short. absurd (omega (arith, covered, above, sums));
      })
      (λ last.
      let d = subst (λ (k : ℕ). Finished k pred r last.0 givers) at.events last.1 in
      let s = rows_settled last.0 givers d in
      record {
        sum = total;
        flows = flows;
        flow = rows_flow;
        least = omega (arith, within, total);
        exact = λ above. settled_least N P p at.sound y (λ u. get_or r.free u 0) (λ w. get_or r.share w 0) rows_flow (members last.0) (members givers) s ∙ sym total;
        set = λ above short. settled_smallest N P p at.sound y (λ u. get_or r.free u 0) (λ w. get_or r.share w 0) rows_flow (members last.0) (members givers) s short;
      })
      ended
