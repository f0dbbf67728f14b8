-- The tokens folded so far, where givers and their takers have their turn by number: a turn for each event to each giver.
use Rattle.std.specs.Prelude.{ℕ, ◌+◌, ◌*◌, ◌≤◌, ◌<◌, Bool, ◌≡◌, eqb, ltb}
use Rattle.std.proofs.Common.{eq-or-lt_of_le, arith, ap₂, ◌∙◌, eqb→eq, lt→ltb}
use Rattle.std.proofs.Math.Logic.{⊎_elim}
use Rattle.std.proofs.Math.Path.{ap}
use Rattle.std.proofs.Math.Dec.{T_not, ltb→lt}
use Rattle.std.proofs.Math.Facts.{yes_eqb}
use Rattle.ids.specs.Limits.{most_events}
use Rattle.finite.specs.Bounded.{decide, same}
use Rattle.finite.specs.Sum.{on, sum, at_end, on_yes, on_no, on_le, on_zero, sum_ext, sum_mono, sum_add, sum_one, sum_zero, sum_row_more}
use Rattle.plan.specs.Net.{Plan}
use Rattle.plan.specs.Flow.{Flow}
use Rattle.fold.specs.Folded.{Folded, folded_ext}
use Rattle.fold.specs.Carried.{Carried, carried_folds}

-- the turn of a giver and a taker
abbrev pub turn_of : ℕ → ℕ → ℕ
turn_of u w = u * most_events + w

-- the tokens of the turns before t
unfoldable pub up_to : (ℕ → ℕ → ℕ) → ℕ → ℕ → ℕ → ℕ
up_to y t a b = on (ltb (turn_of a b) t) (y a b)

-- all the tokens that the events below n give
unfoldable pub total : ℕ → (ℕ → ℕ → ℕ) → ℕ
total n y = sum n (λ a. sum n (λ b. y a b))

-- The tokens of the turns before t are folded, and no pair carries more than all of them.
pub record FoldedTo (P : Plan) (y : ℕ → ℕ → ℕ) (t : ℕ) (x : Flow) : Type 0 where
  pub folded : Folded P (up_to y t) x
  pub most : (i : ℕ) → i < P.pairs → x i ≤ total P.events (up_to y t)

-- as many turns
pub up_to_same : (y : ℕ → ℕ → ℕ) (t s a b : ℕ) → (turn_of a b < t → turn_of a b < s) → (turn_of a b < s → turn_of a b < t) → up_to y t a b ≡ up_to y s a b
unfolding up_to
up_to_same y t s a b to from =
    ap
    (λ (c : Bool). on c (y a b))
    (same
    (ltb (turn_of a b) t)
    (ltb (turn_of a b) s)
    (λ h. lt→ltb (turn_of a b) s (to (ltb→lt (turn_of a b) t h)))
    (λ h. lt→ltb (turn_of a b) t (from (ltb→lt (turn_of a b) s h))))

-- no token is folded twice
pub up_to_most : (n : ℕ) (y : ℕ → ℕ → ℕ) (t : ℕ) → total n (up_to y t) ≤ total n y
unfolding total up_to
up_to_most n y t = sum_mono n _ _ (λ a l. sum_mono n _ _ (λ b h. on_le (ltb (turn_of a b) t) (y a b)))

-- the turn of u and w
module _ (y : ℕ → ℕ → ℕ) (u w : ℕ) (hw : w < most_events) where
  pub up_to_more : (a b : ℕ) → b < most_events → up_to y (turn_of u w + 1) a b ≡ up_to y (turn_of u w) a b + on (eqb u a) (on (eqb w b) (y u w))
  unfolding up_to
  up_to_more a b hb =
      ⊎_elim
      (λ e.
      ⊎_elim
      (λ d. here (eqb→eq u a e) (eqb→eq w b d))
      (λ d.
      other
      (ap (on (eqb u a)) (on_no (eqb w b) (y u w) (T_not (eqb w b) d)) ∙ on_zero (eqb u a))
      (λ c. T_not (eqb w b) d (yes_eqb {a = w} {b = b} (omega arith))))
      (decide (eqb w b)))
      (λ e.
      other
      (on_no (eqb u a) (on (eqb w b) (y u w)) (T_not (eqb u a) e))
      (λ c. T_not (eqb u a) e (yes_eqb {a = u} {b = a} (omega arith))))
      (decide (eqb u a))
    where
      More : Type 0
      More = up_to y (turn_of u w + 1) a b ≡ up_to y (turn_of u w) a b + on (eqb u a) (on (eqb w b) (y u w))

      here : u ≡ a → w ≡ b → More
      here e d =
          omega (
            arith,
            on_yes (ltb (turn_of a b) (turn_of u w + 1)) (y a b) (lt→ltb (turn_of a b) (turn_of u w + 1) (omega arith)),
            on_no (ltb (turn_of a b) (turn_of u w)) (y a b) (λ t. omega (arith, ltb→lt (turn_of a b) (turn_of u w) t)),
            on_yes (eqb u a) (on (eqb w b) (y u w)) (yes_eqb e),
            on_yes (eqb w b) (y u w) (yes_eqb d),
            ap₂ y e d,
          )

      other : on (eqb u a) (on (eqb w b) (y u w)) ≡ 0 → (turn_of a b ≡ turn_of u w → ⊥) → More
      other none apart = omega (arith, none, up_to_same y (turn_of u w + 1) (turn_of u w) a b (λ h. strict h) (λ h. omega arith))
        where
          strict : turn_of a b < turn_of u w + 1 → turn_of a b < turn_of u w
          strict h = ⊎_elim (λ e. absurd (apart (omega arith))) (λ l. omega arith) (eq-or-lt_of_le h)

  module _ (n : ℕ) (few : n ≤ most_events) (lu : u < n) (lw : w < n) where
    pub total_more : total n (up_to y (turn_of u w + 1)) ≡ total n (up_to y (turn_of u w)) + y u w
    unfolding total
    total_more =
        sum_ext n _ _ (λ a l. sum_ext n _ _ (λ b h. up_to_more a b (omega arith)) ∙ sum_row_more n u w (y u w) a (up_to y (turn_of u w) a) lw)
        ∙ sum_add n (λ a. sum n (up_to y (turn_of u w) a)) (λ a. on (eqb u a) (y u w))
        ∙ ap (λ (z : ℕ). total n (up_to y (turn_of u w)) + z) (sum_one n u (λ a. y u w) lu)

module _ (P : Plan) (few : P.events ≤ most_events) (y : ℕ → ℕ → ℕ) (x : Flow) where
  -- no turn yet, and no number on a pair
  pub to_none : ((i : ℕ) → i < P.pairs → x i ≡ 0) → FoldedTo P y 0 x
  unfolding up_to at_end
  to_none zeros =
      record {
        folded =
            record {
              balance = λ v l. omega (arith, none P.later v, none P.earlier v, gives v, gets v);
              received = λ v l. omega (arith, gets v);
              bare = λ i l b. zeros i l;
            };
        most = λ i l. omega (arith, zeros i l);
      }
    where
      early : (a b : ℕ) → up_to y 0 a b ≡ 0
      early a b = on_no (ltb (turn_of a b) 0) (y a b) (λ t. omega (arith, ltb→lt (turn_of a b) 0 t))

      gives : (v : ℕ) → sum P.events (λ w. up_to y 0 v w) ≡ 0
      gives v = sum_zero P.events (λ w. up_to y 0 v w) (λ w h. early v w)

      gets : (v : ℕ) → sum P.events (λ u. up_to y 0 u v) ≡ 0
      gets v = sum_zero P.events (λ u. up_to y 0 u v) (λ u h. early u v)

      none : (e : ℕ → ℕ) (v : ℕ) → at_end P.pairs e x v ≡ 0
      none e v = sum_zero P.pairs (λ i. on (eqb (e i) v) (x i)) (λ i l. ap (on (eqb (e i) v)) (zeros i l) ∙ on_zero (eqb (e i) v))

  -- the same turns
  to_same : (t s : ℕ) → ((a b : ℕ) → a < P.events → b < P.events → up_to y t a b ≡ up_to y s a b) → FoldedTo P y t x → FoldedTo P y s x
  unfolding total
  to_same t s same f =
      record {
        folded = folded_ext P (up_to y t) (up_to y s) x f.folded same;
        most = λ i l. omega (arith, f.most i l, totals);
      }
    where
      totals : sum P.events (λ a. sum P.events (up_to y t a)) ≡ sum P.events (λ a. sum P.events (up_to y s a))
      totals = sum_ext P.events _ _ (λ a h. sum_ext P.events _ _ (λ b g. same a b h g))

  -- u gives nothing to w
  pub to_skip : (u w : ℕ) → u < P.events → w < P.events → y u w ≡ 0 → FoldedTo P y (turn_of u w) x → FoldedTo P y (turn_of u w + 1) x
  to_skip u w lu lw none =
      to_same
      (turn_of u w)
      (turn_of u w + 1)
      (λ a b ha hb.
      omega (
        arith,
        up_to_more y u w (omega arith) a b (omega arith),
        ap (λ (k : ℕ). on (eqb u a) (on (eqb w b) k)) none,
        ap (on (eqb u a)) (on_zero (eqb w b)),
        on_zero (eqb u a),
      ))

  -- u has had its turn with every taker
  pub to_giver : (u : ℕ) → FoldedTo P y (u * most_events + P.events) x → FoldedTo P y ((u + 1) * most_events) x
  to_giver u = to_same _ _ (λ a b ha hb. up_to_same y _ _ a b (λ h. omega arith) (λ h. omega arith))

  -- every giver has had its turn
  pub to_all : FoldedTo P y (P.events * most_events) x → Folded P y x
  unfolding up_to
  to_all f =
      folded_ext
      P
      _
      y
      x
      f.folded
      (λ a b ha hb. on_yes (ltb (turn_of a b) _) (y a b) (lt→ltb (turn_of a b) (P.events * most_events) (omega arith)))

  module _ (u w : ℕ) (lu : u < P.events) (lw : w < P.events) (f : FoldedTo P y (turn_of u w) x) where
    -- a pair has room for the tokens from u to w
    pub to_room : (i : ℕ) → i < P.pairs → x i + y u w ≤ total P.events y
    to_room i l = omega (arith, f.most i l, total_more y u w (omega arith) P.events few lu lw, up_to_most P.events y (turn_of u w + 1))

    -- carrying them is the turn of u and w
    pub to_more : (z : Flow) → (u ≡ w → ⊥) → Carried P x z u w (y u w) → FoldedTo P y (turn_of u w + 1) z
    to_more z apart c =
        record {
          folded =
              carried_folds
              P
              (up_to y (turn_of u w))
              (up_to y (turn_of u w + 1))
              x
              z
              u
              w
              (y u w)
              lu
              lw
              apart
              (λ a b ha hb. up_to_more y u w (omega arith) a b (omega arith))
              f.folded
              c;
          most = λ i l. omega (arith, f.most i l, c.most i l, total_more y u w (omega arith) P.events few lu lw);
        }
