-- The turn of a giver and a taker: the tokens that the one gives the other are carried, if there are any.
use Prim.Native.Nat.{ℕ, ◌+◌, ◌*◌, ◌<◌}
use native.Mathlib.Omega.{arith}
use mathlib.Core.Bool.{true, false}
use mathlib.Core.List.{List}
use mathlib.Core.Path.{◌≡◌, refl, sym, ap, subst, ◌∙◌}
use denote.Floats.{passes}
use lib.ListN.{length, get_or}
use Rattle.ids.specs.Limits.{most_events}
use Rattle.finite.specs.Search.{fails}
use Rattle.finite.specs.Sum.{on_yes, on_no}
use Rattle.plan.specs.Net.{Plan}
use Rattle.plan.specs.Order.{Before}
use Rattle.marks.specs.Marks.{marked}
use Rattle.tokenflow.specs.Rows.{fed_by}
use Rattle.fold.specs.Folded.{Folded}
use Rattle.fold.specs.Carried.{Carried}
use Rattle.fold.specs.FoldedTo.{turn_of, FoldedTo, to_none, to_skip, to_giver, to_all, to_room, to_more}
use Rattle.fold.specs.Feeding.{Foldable, Turned}
use Rattle.fold.specs.Walkable.{Walkable}
use Rattle.fold.specs.Written.{numbers_of, Zeros}

module _ {P : Plan} {n : ℕ} {succ skel index amount fed : List ℕ} (g : Foldable P n succ skel index amount fed) (row : List ℕ) where
  start : Zeros row → FoldedTo P (fed_by amount fed) 0 (numbers_of row)
  start z = to_none P g.way.few (fed_by amount fed) (numbers_of row) (λ i l. z.zero i)

  all : FoldedTo P (fed_by amount fed) (n * most_events) (numbers_of row) → Folded P (fed_by amount fed) (numbers_of row)
  all f = to_all P g.way.few (fed_by amount fed) (numbers_of row) (subst (λ (x : ℕ). FoldedTo P (fed_by amount fed) (x * most_events) (numbers_of row)) (sym g.events) f)

  giver : (u : ℕ) → FoldedTo P (fed_by amount fed) (u * most_events + n) (numbers_of row)
      → FoldedTo P (fed_by amount fed) ((u + 1) * most_events) (numbers_of row)
  giver u f = to_giver P g.way.few (fed_by amount fed) (numbers_of row) u (subst (λ (x : ℕ). FoldedTo P (fed_by amount fed) (turn_of u x) (numbers_of row)) (sym g.events) f)

  module _ (u w : ℕ) (lu : u < n) (lw : w < n) (f : FoldedTo P (fed_by amount fed) (turn_of u w) (numbers_of row)) where
    gives : u < P.events
    gives = omega (arith, g.events)

    takes : w < P.events
    takes = omega (arith, g.events)

    skip : marked fed u w ≡ false → FoldedTo P (fed_by amount fed) (turn_of u w + 1) (numbers_of row)
    unfolding fed_by
    skip away =
        to_skip P g.way.few (fed_by amount fed) (numbers_of row) u w gives takes (on_no (marked fed u w) _ (fails (marked fed u w) away)) f

    module _ (feeds : marked fed u w ≡ true) where
      tokens : fed_by amount fed u w ≡ get_or amount (turn_of u w) 0
      unfolding fed_by
      tokens = on_yes (marked fed u w) (get_or amount (turn_of u w) 0) (passes (marked fed u w) feeds)

      ordered : Before P u w
      ordered = g.feeds.ordered u w gives takes (passes (marked fed u w) feeds)

      room : (i : ℕ) → i < P.pairs → get_or row i 0 + get_or amount (turn_of u w) 0 < 4294967296
      room i l =
          omega (arith, tokens, g.feeds.fits, to_room P g.way.few (fed_by amount fed) (numbers_of row) u w gives takes f i l)

      more : (row' : List ℕ) → Carried P (numbers_of row) (numbers_of row') u w (get_or amount (turn_of u w) 0)
          → FoldedTo P (fed_by amount fed) (turn_of u w + 1) (numbers_of row')
      more row' c =
          to_more
          P
          g.way.few
          (fed_by amount fed)
          (numbers_of row)
          u
          w
          gives
          takes
          f
          (numbers_of row')
          (λ e. g.way.sound.acyclic w (subst (λ (x : ℕ). Before P x w) e ordered))
          (rw tokens c)

module _ {n : ℕ} {succ skel index amount fed : List ℕ} where
  -- no turn yet
  pub turns_none : (t s : ℕ) (row : List ℕ) → t ≡ s → Turned n succ skel index amount fed t row s row
  turns_none t s row e =
      record { size = refl; folded = λ P g m f. subst (λ (x : ℕ). FoldedTo P (fed_by amount fed) x (numbers_of row)) e f }

  -- some turns and then more
  pub turns_then : {t s r : ℕ} {row₀ row row' : List ℕ} → Turned n succ skel index amount fed t row₀ s row
      → Turned n succ skel index amount fed s row r row' → Turned n succ skel index amount fed t row₀ r row'
  turns_then a b =
      record { size = b.size ∙ a.size; folded = λ P g m f. b.folded P g (m ∙ sym a.size) (a.folded P g m f) }

  module _ {s : ℕ} {row₀ row : List ℕ} (z : Zeros row₀) (a : Turned n succ skel index amount fed 0 row₀ s row) where
    -- some turns, from a row of zeros
    pub turns_some : ((P : Plan) × Foldable P n succ skel index amount fed × (P.pairs ≡ length row₀))
        → (P : Plan) × Foldable P n succ skel index amount fed × (P.pairs ≡ length row) × FoldedTo P (fed_by amount fed) s (numbers_of row)
    turns_some some =
        let g = some.1 in
        (some.0, g, omega (arith, some.2, a.size), a.folded some.0 g some.2 (start g row₀ z))

    -- the turns of all givers
    pub turns_all : s ≡ n * most_events → (P : Plan) → Foldable P n succ skel index amount fed → P.pairs ≡ length row₀
        → Folded P (fed_by amount fed) (numbers_of row)
    turns_all e P g m = all g row (rw e at (a.folded P g m (start g row₀ z)))

  module _ (u w : ℕ) {t : ℕ} {row₀ row : List ℕ} (a : Turned n succ skel index amount fed t row₀ (turn_of u w) row) where
    -- every taker of u has had its turn
    pub turns_giver : w ≡ n → Turned n succ skel index amount fed t row₀ ((u + 1) * most_events) row
    turns_giver e =
        record { size = a.size; folded = λ P g m f. giver g row u (rw (ap (turn_of u) e) at (a.folded P g m f)) }

    module _ (lu : u < n) (lw : w < n) where
      next : turn_of u w + 1 ≡ turn_of u (w + 1)
      next = omega arith

      -- u gives nothing to w
      pub turn_skip : (row' : List ℕ) → marked fed u w ≡ false → row' ≡ row → Turned n succ skel index amount fed t row₀ (turn_of u (w + 1)) row'
      turn_skip row' away e =
          rw
          e
          (record {
            size = a.size;
            folded = λ P g m f. rw next at (skip g row u w lu lw (a.folded P g m f) away);
          })

      module _ (k : ℕ) (feeds : marked fed u w ≡ true) (is : k ≡ get_or amount (turn_of u w) 0) where
        -- its tokens can be carried
        pub turn_trace : ((P : Plan) × Foldable P n succ skel index amount fed × (P.pairs ≡ length row₀) × FoldedTo P (fed_by amount fed) t (numbers_of row₀))
            → ((P : Plan) × Walkable P succ skel index × Before P u w × (P.pairs ≡ length row)) × ((i : ℕ) → i < length row → get_or row i 0 + k < 4294967296)
        turn_trace some =
            let g = some.1 in
            let f = a.folded some.0 g some.2 some.3 in (
              (some.0, g.way, ordered g row u w lu lw f feeds, omega (arith, some.2, a.size)),
              λ i l. omega (arith, is, room g row u w lu lw f feeds i (omega (arith, some.2, a.size))),
            )

        -- and were
        pub turn_more : (row' row'' : List ℕ) → row'' ≡ row' → length row' ≡ length row
            → ((P : Plan) → Walkable P succ skel index → Before P u w → Carried P (numbers_of row) (numbers_of row') u w k)
            → Turned n succ skel index amount fed t row₀ (turn_of u (w + 1)) row''
        turn_more row' row'' e kept carried =
            rw
            e
            (record {
              size = kept ∙ a.size;
              folded = λ P g m f.
                  let f' = a.folded P g m f in
                  rw next at (more g row u w lu lw f' feeds row' (rw is at (carried P g.way (ordered g row u w lu lw f' feeds))));
            })
