-- What storing a number for a giver and a taker, and setting or clearing their mark, does to the amounts.
use Prim.Native.Nat.{ℕ, ◌+◌, ◌*◌, ◌<◌}
use native.Mathlib.Omega.{arith}
use mathlib.Core.Bool.{Bool, false, not, ◌&&◌, ◌||◌, or-false}
use mathlib.Core.List.{List}
use mathlib.Core.Logic.{◌⊎◌, inl, inr, ⊎_elim}
use mathlib.Core.Path.{◌≡◌, refl, sym, ap, ap₂, subst, subst₂, ◌∙◌}
use lib.Dec.{T, T_not, eqb, eqb→eq, eqb_refl}
use lib.ListN.{length, get_or, set, length-set}
use lib.Seq.{get_or-set_same, get_or-set_other}
use mir.Facts.{eqb_no, and_yes, yes_and, or_yes}
use Rattle.finite.specs.Bounded.{decide, same, yes_or_left, yes_or_right}
use Rattle.finite.specs.Sum.{on, on_yes, on_no, on_zero}
use Rattle.marks.specs.Marks.{marked, MarkAdded, MarkRemoved}
use Rattle.tokenflow.specs.Rows.{fed_by, Exact, Raised}

-- the number counts where the mark is set, and only there
pub fed_marked : (amount fed : List ℕ) (u w : ℕ) → T (marked fed u w) → fed_by amount fed u w ≡ get_or amount (u * 256 + w) 0
unfolding fed_by
fed_marked amount fed u w = on_yes (marked fed u w) (get_or amount (u * 256 + w) 0)

fed_unmarked : (amount fed : List ℕ) (u w : ℕ) → ¬ T (marked fed u w) → fed_by amount fed u w ≡ 0
unfolding fed_by
fed_unmarked amount fed u w = on_no (marked fed u w) (get_or amount (u * 256 + w) 0)

-- (a, b) isn't (u, w): their numbers stand at other places of the row, and nothing is added for (a, b)
record Elsewhere (u w a b : ℕ) : Type 0 where
  pub apart : (eqb a u && eqb b w) ≡ false
  pub other : ¬ (a * 256 + b ≡ u * 256 + w)
  pub none : (k : ℕ) → on (eqb u a) (on (eqb w b) k) ≡ 0

there : (u w a b : ℕ) → w < 256 → b < 256 → ((u ≡ a) × (w ≡ b)) ⊎ Elsewhere u w a b
there u w a b hw hb =
    ⊎_elim
    (λ e.
    ⊎_elim
    (λ f. inl (eqb→eq u a e, eqb→eq w b f))
    (λ f. inr (elsewhere (λ p q. eqb_no f (sym q)) (λ k. ap (on (eqb u a)) (on_no (eqb w b) k (T_not (eqb w b) f)) ∙ on_zero (eqb u a))))
    (decide (eqb w b)))
    (λ e. inr (elsewhere (λ p q. eqb_no e (sym p)) (λ k. on_no (eqb u a) (on (eqb w b) k) (T_not (eqb u a) e))))
    (decide (eqb u a))
  where
    elsewhere : (a ≡ u → b ≡ w → ⊥) → ((k : ℕ) → on (eqb u a) (on (eqb w b) k) ≡ 0) → Elsewhere u w a b
    elsewhere h none =
        record {
          apart = same (eqb a u && eqb b w) false (λ t. let p = and_yes (eqb a u) (eqb b w) t in h (eqb→eq a u p.0) (eqb→eq b w p.1)) (λ t. absurd t);
          other = λ e. h (omega arith) (omega arith);
          none = none;
        }

-- Amounts that are the same but for (u, w), with a mark added there.
module _ (amount fed amount' fed' : List ℕ) (u w k : ℕ) (hw : w < 256) (more : MarkAdded fed fed' u w) where
  here : get_or amount' (u * 256 + w) 0 ≡ fed_by amount fed u w + k → fed_by amount' fed' u w ≡ fed_by amount fed u w + on (eqb u u) (on (eqb w w) k)
  here e =
      let m = subst T (sym (more.marks u w hw)) (yes_or_right (marked fed u w) (eqb u u && eqb w w) (yes_and (eqb u u) (eqb w w) (eqb_refl u) (eqb_refl w))) in
      omega (arith, fed_marked amount' fed' u w m, on_yes (eqb u u) (on (eqb w w) k) (eqb_refl u), on_yes (eqb w w) k (eqb_refl w))

  else_same : (a b : ℕ) → b < 256 → Elsewhere u w a b → get_or amount' (a * 256 + b) 0 ≡ get_or amount (a * 256 + b) 0
      → fed_by amount' fed' a b ≡ fed_by amount fed a b + on (eqb u a) (on (eqb w b) k)
  unfolding fed_by
  else_same a b hb e n =
      omega (arith, e.none k, ap₂ on (more.marks a b hb ∙ ap (λ (t : Bool). marked fed a b || t) e.apart ∙ or-false (marked fed a b)) n)

  raised : length amount' ≡ length amount → ((i : ℕ) → ¬ (i ≡ u * 256 + w) → get_or amount' i 0 ≡ get_or amount i 0)
      → get_or amount' (u * 256 + w) 0 ≡ fed_by amount fed u w + k → Raised amount fed amount' fed' u w k
  raised size others e =
      record {
        size = size;
        more = λ a b ha hb.
            ⊎_elim
            (λ s. subst₂ (λ (x y : ℕ). fed_by amount' fed' x y ≡ fed_by amount fed x y + on (eqb u x) (on (eqb w y) k)) s.0 s.1 (here e))
            (λ s. else_same a b hb s (others (a * 256 + b) s.other))
            (there u w a b hw hb);
        kept = λ a b hb t. subst T (sym (more.marks a b hb)) (yes_or_left (marked fed a b) (eqb a u && eqb b w) t);
        added = λ a b hb t.
            ⊎_elim
            inl
            (λ h. let p = and_yes (eqb a u) (eqb b w) h in inr (eqb→eq a u p.0, eqb→eq b w p.1))
            (or_yes (marked fed a b) (eqb a u && eqb b w) (subst T (more.marks a b hb) t));
      }

-- The mark (u, w) is set.
module _ (fed : List ℕ) (u w : ℕ) (m : T (marked fed u w)) where
  is_that : (a b : ℕ) → T (eqb a u && eqb b w) → T (marked fed a b)
  is_that a b t =
      let p = and_yes (eqb a u) (eqb b w) t in
      subst₂ (λ (x y : ℕ). T (marked fed x y)) (sym (eqb→eq a u p.0)) (sym (eqb→eq b w p.1)) m

  -- to add it again changes nothing
  added_again : MarkAdded fed fed u w
  added_again =
      record {
        size = refl;
        marks = λ a b hb.
            same
            (marked fed a b)
            (marked fed a b || (eqb a u && eqb b w))
            (yes_or_left (marked fed a b) (eqb a u && eqb b w))
            (λ t. ⊎_elim (λ y. y) (is_that a b) (or_yes (marked fed a b) (eqb a u && eqb b w) t));
      }

  module _ (fed' : List ℕ) (gone : MarkRemoved fed fed' u w) where
    -- it is what is added to the marks that are left without it
    added_back : MarkAdded fed' fed u w
    added_back =
        record {
          size = sym gone.size;
          marks = λ a b hb.
              same
              (marked fed a b)
              (marked fed' a b || (eqb a u && eqb b w))
              (λ t.
              ⊎_elim
              (yes_or_right (marked fed' a b) (eqb a u && eqb b w))
              (λ c. yes_or_left (marked fed' a b) (eqb a u && eqb b w) (subst T (sym (gone.marks a b hb)) (yes_and (marked fed a b) (not (eqb a u && eqb b w)) t c)))
              (decide (eqb a u && eqb b w)))
              (λ t.
              ⊎_elim
              (λ y. (and_yes (marked fed a b) (not (eqb a u && eqb b w)) (subst T (gone.marks a b hb) y)).0)
              (is_that a b)
              (or_yes (marked fed' a b) (eqb a u && eqb b w) t));
        }

    cleared : w < 256 → T (marked fed' u w) → ⊥
    cleared hw t =
        T_not
        (eqb u u && eqb w w)
        (and_yes (marked fed u w) (not (eqb u u && eqb w w)) (subst T (gone.marks u w hw) t)).1
        (yes_and (eqb u u) (eqb w w) (eqb_refl u) (eqb_refl w))

-- Marks stay exact where k tokens are taken away, if the mark there goes with the last of them.
lowered_exact : {amount fed amount' fed' : List ℕ} {u w k : ℕ} → u < 256 → w < 256 → Raised amount' fed' amount fed u w k
    → (T (marked fed' u w) → k < fed_by amount fed u w) → Exact amount fed → Exact amount' fed'
lowered_exact {amount' = amount'} {fed' = fed'} {u = u} {w = w} {k = k} hu hw r some x =
    record {
      flows = λ a b ha hb t.
          ⊎_elim
          (λ s. subst₂ (λ (x y : ℕ). T (marked fed' x y) → 0 < fed_by amount' fed' x y) s.0 s.1 left t)
          (λ s. omega (arith, r.more a b ha hb, s.none k, x.flows a b ha hb (r.kept a b hb t)))
          (there u w a b hw hb);
    }
  where
    left : T (marked fed' u w) → 0 < fed_by amount' fed' u w
    left t = omega (arith, some t, r.more u w hu hw, on_yes (eqb u u) (on (eqb w w) k) (eqb_refl u), on_yes (eqb w w) k (eqb_refl w))

module _ (amount fed : List ℕ) (u w k : ℕ) (hu : u < 256) (hw : w < 256) (room : u * 256 + w < length amount) where
  stored : (x : ℕ) (fed' : List ℕ) → MarkAdded fed fed' u w → x ≡ fed_by amount fed u w + k → Raised amount fed (set amount (u * 256 + w) x) fed' u w k
  stored x fed' more e =
      let i : ℕ = u * 256 + w in
      raised _ _ _ _ _ _ _ hw more (length-set amount i x) (λ j ne. get_or-set_other amount i j x 0 ne) (get_or-set_same amount i x 0 room ∙ e)

  -- k is added where the mark is set, or stored and the mark set
  pub raised_known : (x : ℕ) → x ≡ get_or amount (u * 256 + w) 0 + k → T (marked fed u w) → Raised amount fed (set amount (u * 256 + w) x) fed u w k
  raised_known x e m = stored x fed (added_again fed u w m) (omega (arith, fed_marked amount fed u w m))

  pub raised_new : (x : ℕ) → x ≡ k → (fed' : List ℕ) → ¬ T (marked fed u w) → MarkAdded fed fed' u w → Raised amount fed (set amount (u * 256 + w) x) fed' u w k
  raised_new x e fed' none more = stored x fed' more (omega (arith, fed_unmarked amount fed u w none))

  module _ (m : T (marked fed u w)) where
    -- k is taken away, and some is left: the amounts before, seen from those after
    pub left_some : (x : ℕ) → 0 < x → x + k ≡ get_or amount (u * 256 + w) 0
        → Raised (set amount (u * 256 + w) x) fed amount fed u w k × (Exact amount fed → Exact (set amount (u * 256 + w) x) fed)
    left_some x some e =
        let i : ℕ = u * 256 + w in
        let here : get_or amount i 0 ≡ fed_by (set amount i x) fed u w + k = omega (arith, get_or-set_same amount i x 0 room, fed_marked (set amount i x) fed u w m) in
        let r : Raised (set amount i x) fed amount fed u w k =
        raised _ _ _ _ _ _ _ hw (added_again fed u w m) (sym (length-set amount i x)) (λ j ne. sym (get_or-set_other amount i j x 0 ne)) here in
        (r, lowered_exact hu hw r (λ t. omega (arith, fed_marked amount fed u w m)))

    -- k is taken away, which was all: the mark goes
    pub left_none : (fed' : List ℕ) → MarkRemoved fed fed' u w → get_or amount (u * 256 + w) 0 ≡ k
        → Raised amount fed' amount fed u w k × (Exact amount fed → Exact amount fed')
    left_none fed' gone e =
        let no = cleared fed u w m fed' gone hw in
        let r : Raised amount fed' amount fed u w k =
        raised _ _ _ _ _ _ _ hw (added_back fed u w m fed' gone) refl (λ i ne. refl) (omega (arith, fed_unmarked amount fed' u w no)) in
        (r, lowered_exact hu hw r (λ t. absurd (no t)))
