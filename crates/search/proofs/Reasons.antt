-- The trail of a search: at its start, after one more taker, and after one more giver.
use Prim.Native.Nat.{ℕ, ◌+◌, ◌<◌}
use native.Mathlib.Omega.{arith}
use mathlib.Core.List.{List}
use mathlib.Core.Logic.{◌⊎◌, inl, inr, ⊎_elim}
use mathlib.Core.Path.{◌≡◌, refl, sym, subst}
use lib.Dec.{T, ltb, ltb→lt}
use mir.Facts.{yes_ltb}
use Rattle.finite.specs.Queue.{Stored, stored_below, below_next}
use Rattle.marks.specs.Marks.{marked}
use Rattle.search.specs.Row.{In, Empty}
use Rattle.search.specs.Exhausted.{Narrow}
use Rattle.search.specs.Trail.{◌!◌, Takers, Givers, takers_of, givers_of, FedBy, MetBy, Trail}
use Rattle.search.specs.Steps.{Joined, Seeded}
use Rattle.search.proofs.Gain.{gain_cases, gain_keeps}

-- a place keeps its reason where its entries stay
fed_moved : {fed : List ℕ} {t s : Takers} {g h : Givers} {i : ℕ} → s.origin ! i ≡ t.origin ! i → s.queue ! i ≡ t.queue ! i
    → (In g.row (t.origin ! i) → In h.row (t.origin ! i) × (h.via ! (t.origin ! i) ≡ g.via ! (t.origin ! i)))
    → FedBy fed t g i → FedBy fed s h i
fed_moved o q keeps f =
    let k = keeps f.giver in
    record {
      giver = rw o k.0;
      feeds = rw (o, q) f.feeds;
      earlier = rw (o, k.1) f.earlier;
    }

pub trail_start : {pred fed share : List ℕ} {n : ℕ} {row queue origin givers via : List ℕ} {tail : ℕ} → Seeded share n row queue tail
    → Empty givers → Trail pred fed share n (takers_of row queue origin tail) (givers_of givers via)
trail_start {queue = queue} s none =
    record {
      reason = λ i l. inl (s.only (queue ! i) (s.queued.listed i l)).1;
      met = λ u h. absurd (none u h);
      least = λ W E k. (λ w h. let root = s.only w h in k.roots w root.0 root.1, λ u h. absurd (none u h));
    }

module _ {pred fed share : List ℕ} {n : ℕ} {t : Takers} {g : Givers} (r : Trail pred fed share n t g) where
  all_below : ((w : ℕ) → In t.row w → T (ltb w n)) × ((u : ℕ) → In g.row u → T (ltb u n))
  all_below =
      r.least
      (λ w. ltb w n)
      (λ u. ltb u n)
      (record {
        roots = λ w l h. yes_ltb l;
        back = λ w u lw lu h m. yes_ltb lu;
        onward = λ u w lu lw h m. yes_ltb lw;
      })

  pub taker_below : (w : ℕ) → In t.row w → w < n
  taker_below w h = ltb→lt w n (all_below.0 w h)

  pub giver_below : (u : ℕ) → In g.row u → u < n
  giver_below u h = ltb→lt u n (all_below.1 u h)

  -- the giver u feeds the taker x
  pub trail_taker : {u x : ℕ} {row queue origin : List ℕ} → Narrow pred fed n → Joined t.row row x t.queue queue t.tail x
      → Stored t.origin origin t.tail u → In g.row u → g.via ! u < t.tail → T (marked fed u x)
      → Trail pred fed share n (takers_of row queue origin (t.tail + 1)) g
  trail_taker {u} {x} {row} {queue} {origin} narrow j p giver early feeds =
      record {
        reason = λ i h. below_next t.tail i h (λ low. before i low) (λ e. subst Reason (sym e) here);
        met = λ v h. met_still v (r.met v h);
        least = λ W E k. (
          λ w h.
              gain_cases
              j
              w
              h
              (λ e. rw e (k.onward u x below (narrow.onward u x below j.event feeds) ((r.least W E k).1 u giver) feeds))
              ((r.least W E k).0 w),
          (r.least W E k).1,
        );
      }
    where
      s : Takers
      s = takers_of row queue origin (t.tail + 1)

      Reason : ℕ → Type 0
      Reason i = (0 < share ! (s.queue ! i)) ⊎ FedBy fed s g i

      below : u < n
      below = giver_below u giver

      before : (i : ℕ) → i < t.tail → Reason i
      before i low =
          ⊎_elim
          (λ h. inl (rw (stored_below j.put i low) h))
          (λ f. inr (fed_moved {t = t} (stored_below p i low) (stored_below j.put i low) (λ h. (h, refl)) f))
          (r.reason i low)

      here : Reason t.tail
      here =
          inr (record { giver = rw p.here giver; feeds = rw (p.here, j.put.here) feeds; earlier = rw p.here early })

      met_still : (v : ℕ) → MetBy pred t g v → MetBy pred s g v
      met_still v f = record { place = omega (arith, f.place); before = rw (stored_below j.put (g.via ! v) f.place) f.before }

  -- the giver u is before the taker at `head`
  pub trail_giver : {head u : ℕ} {row via : List ℕ} → Narrow pred fed n → Joined g.row row u g.via via u head → (In g.row u → ⊥)
      → head < t.tail → In t.row (t.queue ! head) → T (marked pred (t.queue ! head) u)
      → Trail pred fed share n t (givers_of row via)
  trail_giver {head} {u} {row} {via} narrow j fresh early taker before =
      record {
        reason = λ i low.
            ⊎_elim (λ h. inl h) (λ f. inr (fed_moved {t = t} {s = t} {g = g} refl refl (still (t.origin ! i)) f)) (r.reason i low);
        met = λ v there. gain_cases j v there (λ e. rw e here) (λ old. met_still v old (r.met v old));
        least = λ W E k. (
          (r.least W E k).0,
          λ v there.
              gain_cases
              j
              v
              there
              (λ e. rw e (k.back w u below (narrow.back w u below j.event before) ((r.least W E k).0 w taker) before))
              ((r.least W E k).1 v),
        );
      }
    where
      h : Givers
      h = givers_of row via

      w : ℕ
      w = t.queue ! head

      below : w < n
      below = taker_below w taker

      old_via : (v : ℕ) → In g.row v → h.via ! v ≡ g.via ! v
      old_via v old = j.put.others v (λ e. fresh (subst (In g.row) e old))

      still : (v : ℕ) → In g.row v → In h.row v × (h.via ! v ≡ g.via ! v)
      still v old = (gain_keeps j v old, old_via v old)

      here : MetBy pred t h u
      here = record { place = rw j.put.here early; before = rw j.put.here before }

      met_still : (v : ℕ) → In g.row v → MetBy pred t g v → MetBy pred t h v
      met_still v old f = record { place = rw (old_via v old) f.place; before = rw (old_via v old) f.before }
