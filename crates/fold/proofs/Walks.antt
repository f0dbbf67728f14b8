-- The walk back from an event along skeleton pairs: a step exists, and steps lead nearer.
use Prim.Native.Nat.{ℕ, ◌+◌, ◌<◌}
use native.Mathlib.Omega.{arith}
use mathlib.Core.Bool.{Bool, true, false, not, ◌&&◌, ◌||◌}
use mathlib.Core.List.{List}
use mathlib.Core.Logic.{◌⊎◌, inl, inr, ⊎_elim}
use mathlib.Core.Path.{◌≡◌, refl, sym, subst, subst₂, ◌∙◌}
use borrow.Author.Tests.{not-false}
use denote.Floats.{passes}
use lib.Dec.{T, eqb, eqb→eq}
use lib.ListN.{length, get_or, length-set}
use mir.Facts.{and_yes, yes_and, or_yes, yes_eqb, eqb_no}
use Rattle.ids.specs.Limits.{most_events}
use Rattle.finite.specs.Bounded.{yes_or_left, yes_or_right}
use Rattle.finite.specs.Row.{raised_at}
use Rattle.finite.specs.Search.{fails}
use Rattle.finite.specs.Sum.{on, sum, sum_strict, on_mono, on_yes, on_no}
use Rattle.plan.specs.Net.{Plan}
use Rattle.plan.specs.Order.{Before, pair, chain}
use Rattle.theory.specs.Skeleton.{before_earlier, before_later, last_link}
use Rattle.marks.specs.Marks.{marked}
use Rattle.last_mark.specs.Found.{Both}
use Rattle.fold.specs.Carried.{Carried, carried_none, carried_more}
use Rattle.skeleton.specs.Linked.{IsLink}
use Rattle.skeleton.specs.Lists.{Lists}
use Rattle.fold.specs.Walkable.{Walkable, StepBack}
use Rattle.fold.specs.Written.{numbers_of, raised_by}

module _ {P : Plan} {succ skel index : List ℕ} (way : Walkable P succ skel index) where
  -- both ends are events
  pub ends : (u v : ℕ) → Before P u v → (u < most_events) × (v < most_events)
  ends u v b = (omega (arith, before_earlier P way.sound b, way.few), omega (arith, before_later P way.sound b, way.few))

  link_before : (a b i : ℕ) → IsLink P P.pairs a b i → Before P a b
  link_before a b i k = subst₂ (Before P) k.starts k.ends (pair i k.named)

  module _ {u cur : ℕ} (b : Before P u cur) where
    -- u itself is one pair back
    pub step_here : marked skel cur u ≡ true → StepBack P u cur u
    step_here t =
        let e = ends u cur b in
        record { link = way.linked.links u cur e.0 e.1 (passes (marked skel cur u) t); onward = inl refl }

    -- or some event after u is
    pub step_there : (v : ℕ) → Both skel cur succ u v → StepBack P u cur v
    step_there v both =
        let e = ends u cur b in
        let event = way.after.only u v both.below both.second in
        record {
          link = way.linked.links v cur both.below e.1 both.first;
          onward = inr ((way.after.marks u v (before_earlier P way.sound b) event).0 both.second);
        }

    -- and one of the two is so
    pub step_exists : marked skel cur u ≡ false → ((v : ℕ) → Both skel cur succ u v → ⊥) → ⊥
    step_exists away none =
        let k = last_link P way.sound b in
        let i = k.link.index in
        let m = subst (λ (x : ℕ). T (marked skel x (P.earlier i))) k.link.ends (way.linked.marks i k.link.named k.bare) in
        ⊎_elim
        (λ e. fails (marked skel cur u) away (subst (λ (x : ℕ). T (marked skel cur x)) e m))
        (λ c.
        let l = before_later P way.sound c in
        let after = (way.after.marks u (P.earlier i) (before_earlier P way.sound c) l).1 c in
        none (P.earlier i) (record { below = omega (arith, l, way.few); first = m; second = after }))
        k.link.starts

-- how many events are after u and up to cur
unfoldable pub steps : List ℕ → ℕ → ℕ → ℕ
steps succ u cur = sum most_events (λ z. on (marked succ u z && (eqb z cur || marked succ z cur)) 1)

module _ {P : Plan} {succ skel index : List ℕ} (way : Walkable P succ skel index) {u cur v : ℕ} (b : Before P u cur) (s : StepBack P u cur v) where
  on_way : ℕ → ℕ → Bool
  on_way x z = marked succ u z && (eqb z x || marked succ z x)

  is_on_way : (x z : ℕ) → x < P.events → z < most_events → T (on_way x z) → Before P u z × ((z ≡ x) ⊎ Before P z x)
  unfolding on_way
  is_on_way x z hx hz t =
      let both = and_yes (marked succ u z) (eqb z x || marked succ z x) t in
      let l = way.after.only u z hz both.0 in (
        (way.after.marks u z (before_earlier P way.sound b) l).0 both.0,
        ⊎_elim (λ e. inl (eqb→eq z x e)) (λ m. inr ((way.after.marks z x l hx).0 m)) (or_yes (eqb z x) (marked succ z x) both.1),
      )

  yes_on_way : (x z : ℕ) → x < P.events → Before P u z → (z ≡ x) ⊎ Before P z x → T (on_way x z)
  unfolding on_way
  yes_on_way x z hx c h =
      let l = before_later P way.sound c in
      yes_and
      (marked succ u z)
      (eqb z x || marked succ z x)
      ((way.after.marks u z (before_earlier P way.sound c) l).1 c)
      (⊎_elim
      (λ e. yes_or_left (eqb z x) (marked succ z x) (yes_eqb e))
      (λ d. yes_or_right (eqb z x) (marked succ z x) ((way.after.marks z x l hx).1 d))
      h)

  -- a step back leaves fewer of them
  pub fewer : steps succ u v < steps succ u cur
  unfolding steps on_way
  fewer =
      sum_strict
      most_events
      (λ z. on (on_way v z) 1)
      (λ z. on (on_way cur z) 1)
      (λ z l. on_mono (on_way v z) (on_way cur z) 1 (λ t. let h = is_on_way v z early l t in yes_on_way cur z late h.0 (inr (nearer h.1))))
      cur
      (omega (arith, late, way.few))
      (omega (
        arith,
        on_yes (on_way cur cur) 1 (yes_on_way cur cur late b (inl refl)),
        on_no (on_way v cur) 1 (λ t. way.sound.acyclic cur (nearer (is_on_way v cur early (omega (arith, late, way.few)) t).1)),
      ))
    where
      back : Before P v cur
      back = link_before way v cur s.link.0 s.link.1

      nearer : {z : ℕ} → (z ≡ v) ⊎ Before P z v → Before P z cur
      nearer = ⊎_elim (λ e. subst (λ (y : ℕ). Before P y cur) (sym e) back) (λ d. chain d back)

      late : cur < P.events
      late = before_later P way.sound b

      early : v < P.events
      early = before_earlier P way.sound back

-- what the test of two events tells
pub events_apart : {a b : ℕ} {r : Bool} → r ≡ not (eqb a b) → r ≡ true → ¬ (a ≡ b)
events_apart is t = eqb_no (passes _ (sym is ∙ t))

pub events_meet : {a b : ℕ} {r : Bool} → r ≡ not (eqb a b) → r ≡ false → a ≡ b
events_meet {a} {b} is t = eqb→eq a b (passes _ (not-false _ (sym is ∙ t)))

-- The walk from w back toward u has come to cur.
pub record Walk (P : Plan) (row₀ row : List ℕ) (u cur w k : ℕ) : Type 0 where
  pub carried : Carried P (numbers_of row₀) (numbers_of row) cur w k
  pub onward : (cur ≡ u) ⊎ Before P u cur

-- It has in every plan that has the rows.
pub record Walking (succ skel index row₀ row : List ℕ) (u cur w k : ℕ) : Type 0 where
  pub size : length row ≡ length row₀
  pub walk : (P : Plan) → Walkable P succ skel index → Before P u w → Walk P row₀ row u cur w k

pub walk_start : (succ skel index row : List ℕ) (u w k : ℕ) → Walking succ skel index row row u w w k
walk_start succ skel index row u w k =
    record { size = refl; walk = λ P way b. record { carried = carried_none P (numbers_of row) w k; onward = inr b } }

module _ {succ skel index row₀ row : List ℕ} {u cur w k : ℕ} (g : Walking succ skel index row₀ row u cur w k) where
  pub walk_done : cur ≡ u → (P : Plan) → Walkable P succ skel index → Before P u w → Carried P (numbers_of row₀) (numbers_of row) u w k
  walk_done e P way b =
      subst (λ (x : ℕ). Carried P (numbers_of row₀) (numbers_of row) x w k) e (g.walk P way b).carried

  module _ (apart : cur ≡ u → ⊥) where
    on_way_lem : (P : Plan) → Walkable P succ skel index → Before P u w → Before P u cur
    on_way_lem P way b = ⊎_elim (λ e. absurd (apart e)) (λ d. d) (g.walk P way b).onward

    -- Some plan has the rows.
    module _ (some : (P : Plan) × Walkable P succ skel index × Before P u w × (P.pairs ≡ length row₀)) where
      here : Before some.0 u cur
      here = on_way_lem some.0 some.1 some.2

      pub walk_step : (P : Plan) × (at : List ℕ) × Walkable P succ skel at × Before P u cur
      walk_step = (some.0, index, some.1, here)

      module _ {v : ℕ} (back : (P : Plan) (at : List ℕ) → Walkable P succ skel at → Before P u cur → StepBack P u cur v) where
        step : StepBack some.0 u cur v
        step = back some.0 index some.1 here

        pub walk_fewer : steps succ u v < steps succ u cur
        walk_fewer = fewer some.1 here step

        -- some plan has the pair,
        pub walk_link : (P : Plan) × Lists P P.pairs index × (i : ℕ) × IsLink P P.pairs v cur i
        walk_link = (some.0, some.1.linked.lists, step.link.0, step.link.1)

        module _ {i : ℕ} (found : (P : Plan) → Lists P P.pairs index → IsLink P P.pairs v cur i) where
          at-link : IsLink some.0 some.0.pairs v cur i
          at-link = found some.0 some.1.linked.lists

          -- which has a number in the row,
          pub walk_named : i < length row
          walk_named = omega (arith, at-link.named, some.3, g.size)

          -- has not been on the way, and so has room
          pub walk_room : ((i : ℕ) → i < length row₀ → get_or row₀ i 0 + k < 4294967296) → get_or row i 0 + k < 4294967296
          walk_room room =
              omega (
                arith,
                room i (omega (arith, walk_named, g.size)),
                (g.walk some.0 some.1 some.2).carried.fresh i at-link.named (inl at-link.ends),
              )

          pub walk_more : (row' : List ℕ) → row' ≡ raised_by row i k → Walking succ skel index row₀ row' u v w k
          walk_more row' e =
              rw
              e
              (record {
                size = simp length-set g.size;
                walk = λ P way b.
                    let link = found P way.linked.lists in
                    record {
                      carried =
                          subst
                          (λ (x : ℕ). Carried P (numbers_of row₀) (numbers_of (raised_by row i k)) x w k)
                          link.starts
                          (carried_more P way.sound _ _ _ cur w k _ link.named link.bare link.ends (λ j l. raised_at row _ k walk_named j) (g.walk P way b).carried);
                      onward = (back P index way (on_way_lem P way b)).onward;
                    };
              })
