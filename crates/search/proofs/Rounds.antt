-- The rounds of a search: takers with a share are listed, a giver is followed, a taker is visited, all takers listed are visited.
use Prim.Native.Nat.{ℕ, ◌+◌, ◌≤◌, ◌<◌}
use native.Mathlib.Nat.{le_refl}
use native.Mathlib.Omega.{arith}
use mathlib.Core.List.{List}
use mathlib.Core.Path.{◌≡◌, refl, sym, subst, ◌∙◌}
use lib.Dec.{T}
use Rattle.finite.specs.Count.{count_within_lem}
use Rattle.finite.specs.Queue.{Stored, stored_below, below_next, queued_none, queued_room}
use Rattle.marks.specs.Marks.{marked}
use Rattle.last_mark.specs.Found.{Only, none_only}
use Rattle.search.specs.Row.{members, In, Empty, AllIn, in_marked, marked_in}
use Rattle.search.specs.Exhausted.{Narrow}
use Rattle.search.specs.Trail.{◌!◌, Takers, Givers, takers_of, givers_of, Trail}
use Rattle.search.specs.Searched.{Listed, Searched}
use Rattle.search.specs.Steps.{Joined, Seeded, Longer, Following, Onward, Visiting}
use Rattle.search.proofs.Gain.{gain_cases, gain_keeps, gain_has}
use Rattle.search.proofs.Queue.{listed_more}
use Rattle.search.proofs.Reasons.{trail_start, trail_taker, trail_giver, taker_below, giver_below}

pub seed_start : {share row queue : List ℕ} → Empty row → Seeded share 0 row queue 0
seed_start {share} {row} {queue} none =
    record {
      queued = queued_none 256 (members row) queue none;
      roots = λ w l h. absurd (omega arith);
      only = λ w h. absurd (none w h);
    }

module _ {share row queue : List ℕ} {k tail : ℕ} (s : Seeded share k row queue tail) where
  pub seed_more : {new queue' : List ℕ} → Joined row new k queue queue' tail k → 0 < share ! k → Seeded share (k + 1) new queue' (tail + 1)
  seed_more {new} j has =
      record {
        queued = listed_more j (λ h. omega (arith, (s.only k h).0)) s.queued;
        roots = λ w h root.
            below_next k w h (λ low. gain_keeps j w (s.roots w low root)) (λ e. subst (In new) (sym e) (gain_has j));
        only = λ w h.
            gain_cases j w h (λ e. (omega arith, rw e has)) (λ old. let root = s.only w old in (omega (arith, root.0), root.1));
      }

  pub seed_pass : share ! k ≡ 0 → Seeded share (k + 1) row queue tail
  seed_pass none =
      record {
        queued = s.queued;
        roots = λ w h root.
            below_next
            k
            w
            h
            (λ low. s.roots w low root)
            (λ e. absurd (omega (arith, none, subst (λ (x : ℕ). 0 < share ! x) e root)));
        only = λ w h. let root = s.only w h in (omega (arith, root.0), root.1);
      }

longer_same : (t : Takers) → Listed t.row t.queue t.tail → Longer t t
longer_same t q =
    record {
      queued = q;
      more = le_refl t.tail;
      keeps = λ w h. h;
      prefix = λ i l. refl;
    }

longer_longer : {t s r : Takers} → Longer t s → Longer s r → Longer t r
longer_longer a b =
    record {
      queued = b.queued;
      more = omega (arith, a.more, b.more);
      keeps = λ w h. b.keeps w (a.keeps w h);
      prefix = λ i l. b.prefix i (omega (arith, a.more)) ∙ a.prefix i l;
    }

pub follow_start : {fed : List ℕ} {u : ℕ} {t : Takers} → Listed t.row t.queue t.tail → Following fed u t t
follow_start {t = t} q =
    record {
      longer = longer_same t q;
      trail = λ pred share n g narrow giver early r. r;
    }

-- what a search in two rows says of the second as a set
pub all_in : {rows row : List ℕ} {i : ℕ} → ((x : ℕ) → Only rows i row 0 x → ⊥) → AllIn rows i row
all_in {rows} {row} {i} none x l m = marked_in row x l (none_only rows i row 0 none x l m)

pub unlisted : {rows row : List ℕ} {i x : ℕ} → Only rows i row 0 x → In row x → ⊥
unlisted {row = row} {x = x} o h = o.second (in_marked row x h)

-- the queue has room for one that is not yet listed
pub room : {rows row queue : List ℕ} {i x tail : ℕ} → Listed row queue tail → Only rows i row 0 x → tail < 256
room {x = x} q o = queued_room q x o.below (unlisted o)

pub follow_more : {fed : List ℕ} {u : ℕ} {t s : Takers} {x : ℕ} {row queue origin : List ℕ} → Following fed u t s
    → Only fed u s.row 0 x → Joined s.row row x s.queue queue s.tail x → Stored s.origin origin s.tail u
    → Following fed u t (takers_of row queue origin (s.tail + 1))
follow_more {s = s} f o j p =
    record {
      longer =
          longer_longer
          f.longer
          (record {
            queued = listed_more j (unlisted o) f.longer.queued;
            more = omega arith;
            keeps = gain_keeps j;
            prefix = stored_below j.put;
          });
      trail = λ pred share n g narrow giver early r.
          trail_taker (f.trail pred share n g narrow giver early r) narrow j p giver (omega (arith, f.longer.more)) o.first;
    }

pub visit_start : {pred fed : List ℕ} {t : Takers} {g : Givers} → Listed t.row t.queue t.tail → Visiting pred fed t g t g
visit_start {t = t} q =
    record {
      longer = longer_same t q;
      keeps = λ u h. h;
      onward = λ o. o;
      trail = λ share n narrow r. r;
    }

pub visit_more : {pred fed : List ℕ} {head : ℕ} {t s r : Takers} {g h : Givers} {u : ℕ} {row via : List ℕ} → head < t.tail
    → Visiting pred fed t g s h → Only pred (t.queue ! head) h.row 0 u → Joined h.row row u h.via via u head
    → Following fed u s r → AllIn fed u r.row → Visiting pred fed t g r (givers_of row via)
visit_more {pred} {fed} {head} {t} {s} {r} {g} {h} {u} {row} {via} early v o j f all =
    record {
      longer = longer_longer v.longer f.longer;
      keeps = λ x old. gain_keeps j x (v.keeps x old);
      onward = λ onward x there.
          gain_cases
          j
          x
          there
          (λ e. subst (λ (y : ℕ). AllIn fed y r.row) (sym e) all)
          (λ old w l mark. f.longer.keeps w (v.onward onward x old w l mark));
      trail = λ share n narrow trail.
          f.trail
          pred
          share
          n
          (givers_of row via)
          narrow
          (gain_has j)
          (rw j.put.here later)
          (trail_giver
          (v.trail share n narrow trail)
          narrow
          j
          (unlisted o)
          later
          (v.longer.queued.listed head later)
          (rw (v.longer.prefix head early) o.first));
    }
  where
    later : head < s.tail
    later = omega (arith, v.longer.more)

-- The takers at the first `head` places are visited.
pub record Searching (pred fed share : List ℕ) (n : ℕ) (t : Takers) (g : Givers) (head : ℕ) : Type 0 where
  pub queued : Listed t.row t.queue t.tail
  pub trail : Trail pred fed share n t g
  pub roots : (w : ℕ) → w < n → 0 < share ! w → In t.row w
  pub onward : Onward fed t g
  pub seen : (i : ℕ) → i < head → AllIn pred (t.queue ! i) g.row

module _ {pred fed share : List ℕ} {n : ℕ} where
  pub search_start : {row queue origin givers via : List ℕ} {tail : ℕ} → Seeded share n row queue tail → Empty givers
      → Searching pred fed share n (takers_of row queue origin tail) (givers_of givers via) 0
  search_start s none =
      record {
        queued = s.queued;
        trail = trail_start s none;
        roots = s.roots;
        onward = λ u h. absurd (none u h);
        seen = λ i l. absurd (omega arith);
      }

  pub search_more : {t s : Takers} {g h : Givers} {head : ℕ} → Narrow pred fed n → head < t.tail
      → Searching pred fed share n t g head → Visiting pred fed t g s h → AllIn pred (t.queue ! head) h.row
      → Searching pred fed share n s h (head + 1)
  search_more {t} {s} {g} {h} {head} narrow early r v all =
      record {
        queued = v.longer.queued;
        trail = v.trail share n narrow r.trail;
        roots = λ w l root. v.longer.keeps w (r.roots w l root);
        onward = v.onward r.onward;
        seen = λ i l.
            below_next
            head
            i
            l
            (λ low u b mark. v.keeps u (r.seen i low u b (rw (v.longer.prefix i (omega arith)) at mark)))
            (λ e. subst (λ (k : ℕ). AllIn pred (s.queue ! k) h.row) (sym e) (rw (v.longer.prefix head early) all));
      }

  pub search_done : {t : Takers} {g : Givers} {head : ℕ} → n ≤ 256 → t.tail ≤ head → Searching pred fed share n t g head
      → Searched pred fed share n t g
  search_done {t} {g} small over r =
      record {
        takers = taker_below r.trail;
        givers = giver_below r.trail;
        exhausted =
            record {
              roots = r.roots;
              back = λ w u lw lu h mark.
                  let p = r.queued.placed w h in
                  r.seen p.0 (omega (arith, p.1)) u (omega arith) (subst (λ (x : ℕ). T (marked pred x u)) (sym p.2) mark);
              onward = λ u w lu lw h mark. r.onward u h w (omega arith) mark;
            };
        trail = r.trail;
        queued = r.queued;
        fits = omega (arith, r.queued.counted, count_within_lem 256 n (members t.row) (taker_below r.trail));
      }
