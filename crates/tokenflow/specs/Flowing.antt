-- Rows that hold a tokenflow on "before", and that drawing tokens and giving them back keeps it one.
use Rattle.std.specs.Prelude.{ℕ, ◌+◌, ◌*◌, ◌≤◌, ◌<◌, List, ◌≡◌, refl, T, eqb, length}
use Rattle.std.proofs.Common.{arith, ⊎_elim, sym, subst₂, ◌∙◌}
use Rattle.std.proofs.Math.Path.{ap}
use Rattle.std.proofs.Math.ListN.{get_or}
use Rattle.std.proofs.Math.Facts.{yes_eqb}
use Rattle.finite.specs.Sum.{on, sum, sum_ext, sum_add, sum_one, on_yes, sum_term, sum_row_more, sum_column_more}
use Rattle.ids.specs.Limits.{most_events}
use Rattle.marks.specs.Marks.{marked}
use Rattle.tokenflow.specs.Rows.{fed_by, Exact, Raised, Rows, Drawn, MayDraw, MayGiveBack}

-- marks stay exact: the one that is set or added has tokens
raised_exact : {amount fed amount' fed' : List ℕ} {u w k : ℕ} → 0 < k → Raised amount fed amount' fed' u w k → Exact amount fed → Exact amount' fed'
raised_exact {u = u} {w = w} {k = k} pos r e =
    record {
      flows = λ a b ha hb t.
          ⊎_elim
          (λ old. omega (arith, r.more a b ha hb, e.flows a b ha hb old))
          (λ same. omega (arith, r.more a b ha hb, on_yes (eqb u a) (on (eqb w b) k) (yes_eqb (sym same.0)), on_yes (eqb w b) k (yes_eqb (sym same.1))))
          (r.added a b hb t);
    }

-- what u gives: what it has free and what it feeds to others
unfoldable pub given_in : ℕ → Rows → ℕ → ℕ
given_in n r u = get_or r.free u 0 + sum n (λ w. fed_by r.amount r.fed u w)

-- what w takes: what it lacks and what it gets from others
unfoldable pub taken_in : ℕ → Rows → ℕ → ℕ
taken_in n r w = get_or r.share w 0 + sum n (λ u. fed_by r.amount r.fed u w)

-- The rows hold a tokenflow of the events below n. Row w of `pred` marks what is before w.
pub record Flowing (n : ℕ) (pred : List ℕ) (r : Rows) : Type 0 where
  pub events : n ≤ most_events
  pub room : n * most_events ≤ length r.amount
  pub exact : Exact r.amount r.fed
  pub named : (u w : ℕ) → u < most_events → w < most_events → T (marked r.fed u w) → (u < n) × (w < n)
  pub ordered : (u w : ℕ) → u < most_events → w < most_events → T (marked r.fed u w) → T (marked pred w u)
  pub gives_fit : (u : ℕ) → u < n → given_in n r u < 4294967296
  pub takes_fit : (w : ℕ) → w < n → taken_in n r w < 4294967296

-- Every event gives and takes in the second rows what it does in the first, and they are the same rows.
pub record Kept (n : ℕ) (r r' : Rows) : Type 0 where
  pub gives : (u : ℕ) → u < n → given_in n r u ≡ given_in n r' u
  pub takes : (w : ℕ) → w < n → taken_in n r w ≡ taken_in n r' w
  pub names : r.names ≡ r'.names

pub kept_none : (n : ℕ) (r : Rows) → Kept n r r
kept_none n r = record { gives = λ u l. refl; takes = λ w l. refl; names = refl }

pub kept_then : {n : ℕ} {r s t : Rows} → Kept n r s → Kept n s t → Kept n r t
kept_then k m = record { gives = λ u l. k.gives u l ∙ m.gives u l; takes = λ w l. k.takes w l ∙ m.takes w l; names = k.names ∙ m.names }

pub kept_back : {n : ℕ} {r s : Rows} → Kept n r s → Kept n s r
kept_back k = record { gives = λ u l. sym (k.gives u l); takes = λ w l. sym (k.takes w l); names = sym k.names }

-- what all takers lack
unfoldable pub lacking : ℕ → Rows → ℕ
lacking n r = sum n (λ w. get_or r.share w 0)

module _ {n : ℕ} {r r' : Rows} {u w k : ℕ} (few : n ≤ most_events) (d : Drawn r r' u w k) where
  row_more : (a : ℕ) → a < n → w < n → sum n (λ b. fed_by r'.amount r'.fed a b) ≡ sum n (λ b. fed_by r.amount r.fed a b) + on (eqb u a) k
  row_more a la lw =
      sum_ext n _ _ (λ b l. d.raised.more a b (omega arith) (omega arith)) ∙ sum_row_more n u w k a (λ b. fed_by r.amount r.fed a b) lw

  column_more : (b : ℕ) → b < n → u < n → sum n (λ a. fed_by r'.amount r'.fed a b) ≡ sum n (λ a. fed_by r.amount r.fed a b) + on (eqb w b) k
  column_more b lb lu =
      sum_ext n _ _ (λ a l. d.raised.more a b (omega arith) (omega arith)) ∙ sum_column_more n u w k b (λ a. fed_by r.amount r.fed a b) lu

  -- k tokens drawn are k tokens less lacking
  pub drawn_lacking : w < n → lacking n r ≡ lacking n r' + k
  unfolding lacking
  drawn_lacking l =
      sum_ext n _ _ (λ b _. d.covered.less b)
      ∙ sum_add n (λ b. get_or r'.share b 0) (λ b. on (eqb w b) k)
      ∙ ap (λ (z : ℕ). sum n (λ b. get_or r'.share b 0) + z) (sum_one n w (λ b. k) l)

  -- tokens that are drawn are given and taken all the same
  pub drawn_keeps : u < n → w < n → Kept n r r'
  unfolding given_in taken_in
  drawn_keeps lu lw =
      record {
        gives = λ a l. omega (arith, row_more a l lw, d.spent.less a);
        takes = λ b l. omega (arith, column_more b l lu, d.covered.less b);
        names = d.names;
      }

module _ {n : ℕ} {pred : List ℕ} {r r' : Rows} {u w k : ℕ} (d : Drawn r r' u w k) where
  -- a draw from what is before keeps a tokenflow one
  pub drawn_flows : Flowing n pred r → 0 < k → u < n → w < n → T (marked pred w u) → Flowing n pred r'
  drawn_flows f pos lu lw before =
      let same = drawn_keeps f.events d lu lw in
      record {
        events = f.events;
        room = omega (arith, f.room, d.raised.size);
        exact = raised_exact pos d.raised f.exact;
        named = λ a b la lb t. ⊎_elim (f.named a b la lb) (λ e. (omega (arith, e.0), omega (arith, e.1))) (d.raised.added a b lb t);
        ordered = λ a b la lb t.
            ⊎_elim
            (f.ordered a b la lb)
            (λ e. subst₂ (λ (x y : ℕ). T (marked pred x y)) (sym e.1) (sym e.0) before)
            (d.raised.added a b lb t);
        gives_fit = λ a l. omega (arith, f.gives_fit a l, same.gives a l);
        takes_fit = λ b l. omega (arith, f.takes_fit b l, same.takes b l);
      }

  -- and so does giving back what was drawn
  pub given_back_flows : Flowing n pred r' → u < n → w < n → Exact r.amount r.fed → Flowing n pred r
  given_back_flows f lu lw e =
      let same = drawn_keeps f.events d lu lw in
      record {
        events = f.events;
        room = omega (arith, f.room, d.raised.size);
        exact = e;
        named = λ a b la lb t. f.named a b la lb (d.raised.kept a b lb t);
        ordered = λ a b la lb t. f.ordered a b la lb (d.raised.kept a b lb t);
        gives_fit = λ a l. omega (arith, f.gives_fit a l, same.gives a l);
        takes_fit = λ b l. omega (arith, f.takes_fit b l, same.takes b l);
      }

-- what may be drawn and given back in a tokenflow
module _ {n : ℕ} {pred : List ℕ} {r : Rows} (f : Flowing n pred r) {u w k : ℕ} (lu : u < n) (lw : w < n) where
  pub may_draw : k ≤ get_or r.free u 0 → k ≤ get_or r.share w 0 → MayDraw r u w k
  unfolding taken_in
  may_draw hf hs =
      record {
        giver = omega (arith, f.events);
        taker = omega (arith, f.events);
        room = omega (arith, f.events, f.room);
        free = hf;
        lacks = hs;
        fits = omega (arith, f.takes_fit w lw, sum_term n (λ a. fed_by r.amount r.fed a w) u lu);
      }

  pub may_give_back : T (marked r.fed u w) → k ≤ get_or r.amount (u * most_events + w) 0 → MayGiveBack r u w k
  unfolding fed_by given_in taken_in
  may_give_back m h =
      let e = on_yes (marked r.fed u w) (get_or r.amount (u * most_events + w) 0) m in
      record {
        giver = omega (arith, f.events);
        taker = omega (arith, f.events);
        room = omega (arith, f.events, f.room);
        feeds = m;
        given = h;
        free_fits = omega (arith, f.gives_fit u lu, sum_term n (λ b. fed_by r.amount r.fed u b) w lw, e);
        share_fits = omega (arith, f.takes_fit w lw, sum_term n (λ a. fed_by r.amount r.fed a w) u lu, e);
      }
