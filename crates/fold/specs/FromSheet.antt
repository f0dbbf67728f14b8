-- The rows of a faultless sheet, and of a tokenflow at one of its places, can be walked and folded.
use Rattle.std.specs.Prelude.{ℕ, zero, suc, ◌*◌, ◌≤◌, ◌<◌, List, ◌≡◌}
use Rattle.std.proofs.Common.{le_refl, lt-suc_self, arith, sym, subst}
use Rattle.std.proofs.Math.Nat.{le_step}
use Rattle.finite.specs.Sum.{sum}
use Rattle.plan.specs.Net.{Plan}
use Rattle.theory.specs.Tokenflow.{Tokenflow}
use Rattle.sheet.specs.Faultless.{Faultless, sound}
use Rattle.sheet.specs.Items.{label_at, net_of, plan_of}
use Rattle.sheet.specs.Table.{places_of, events_of, pairs_of}
use Rattle.order.specs.Rows.{OrderRows}
use Rattle.tokenflow.specs.Rows.{Rows, fed_by}
use Rattle.tokenflow.specs.Flowing.{Flowing}
use Rattle.fold.specs.FoldedTo.{total}
use Rattle.skeleton.specs.Linked.{Linked}
use Rattle.fold.specs.Walkable.{Walkable}
use Rattle.fold.specs.Feeding.{Feeding, Foldable}

walkable : (s : List ℕ) → Faultless s → (succ pred skel index : List ℕ) → OrderRows (plan_of s) succ pred
    → Linked (plan_of s) (pairs_of s) skel index → Walkable (plan_of s) succ skel index
walkable s known succ pred skel index rows linked =
    record { sound = sound s known; few = known.laid.limited.events; after = rows.after; linked = linked }

-- the tokens of at most 1,000 to a giver
total_most : (n : ℕ) (y : ℕ → ℕ → ℕ) → ((u : ℕ) → u < n → sum n (λ w. y u w) ≤ 1000) → total n y ≤ n * 1000
unfolding total sum
total_most n y most = up n (λ u. sum n (λ w. y u w)) most
  where
    up : (m : ℕ) (f : ℕ → ℕ) → ((u : ℕ) → u < m → f u ≤ 1000) → sum m f ≤ m * 1000
    up zero f h = le_refl 0
    up (suc m) f h = omega (arith, up m f (λ u l. h u (le_step l)), h m (lt-suc_self m))

-- a tokenflow in which no event gives more than 1,000
flowing_feeds : (P : Plan) (n : ℕ) (succ pred : List ℕ) (r : Rows) → n ≡ P.events → OrderRows P succ pred → Flowing n pred r
    → ((u : ℕ) → u < n → sum n (λ w. fed_by r.amount r.fed u w) ≤ 1000) → Feeding P r.amount r.fed
flowing_feeds P n succ pred r e rows f most =
    record {
      room = omega (arith, f.room);
      ordered = λ u w lu lw t.
          (rows.ahead.marks w u lw lu).0 (f.ordered u w (omega (arith, f.events)) (omega (arith, f.events)) t);
      fits = omega (arith, f.events, total_most P.events (fed_by r.amount r.fed) (λ u l. rw e at most u (omega arith)));
    }

-- the events of a sheet give at most 1,000 at a place
pub sheet_foldable : (s : List ℕ) (known : Faultless s) (p n : ℕ) → p < places_of s → n ≡ events_of s
    → (succ pred skel index : List ℕ) → OrderRows (plan_of s) succ pred → Linked (plan_of s) (pairs_of s) skel index
    → (r : Rows) (free share : ℕ → ℕ) → Flowing n pred r → Tokenflow (net_of s) (plan_of s) p (fed_by r.amount r.fed) free share
    → Foldable (plan_of s) n succ skel index r.amount r.fed
sheet_foldable s known p n lp e succ pred skel index rows linked r free share f t =
    record {
      events = sym e;
      way = walkable s known succ pred skel index rows linked;
      feeds = flowing_feeds (plan_of s) n succ pred r e rows f gives_few;
    }
  where
    gives_few : (u : ℕ) → u < n → sum n (λ w. fed_by r.amount r.fed u w) ≤ 1000
    gives_few u l =
        subst
        (λ (k : ℕ). sum k (λ w. fed_by r.amount r.fed u w) ≤ 1000)
        (sym e)
        (omega (arith, t.gives u (omega arith), known.gives (label_at s u) p (known.labels u (omega arith)) lp))
