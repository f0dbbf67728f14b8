-- A queue in a row of numbers: its first places list the members of a set, each once, and one more is put behind them.
use Rattle.std.specs.Prelude.{ℕ, ◌+◌, ◌≤◌, ◌<◌, ◌||◌, List, ◌≡◌, T, eqb, length, get_or, set}
use Rattle.std.proofs.Common.{arith, ⊎_elim, sym, ap, subst, ◌∙◌, eqb→eq, get_or-set_same, get_or-set_other}
use Rattle.std.proofs.Math.Dec.{eqb_refl}
use Rattle.std.proofs.Math.Facts.{or_yes}
use Rattle.finite.specs.Bounded.{below_suc, yes_or_left, yes_or_right}
use Rattle.finite.specs.Count.{count, count_none, count_insert, count_le, count_room}
use Rattle.finite.specs.Subset.{Set, insert}

-- The number x is stored at a place of a list. Other places stay.
pub record Stored (old new : List ℕ) (at x : ℕ) : Type 0 where
  pub here : get_or new at 0 ≡ x
  pub others : (i : ℕ) → ¬ (i ≡ at) → get_or new i 0 ≡ get_or old i 0

-- The first places of the queue list the members of S below n, each once, and S has no others.
pub record Queued (n : ℕ) (S : Set) (queue : List ℕ) (tail : ℕ) : Type 0 where
  pub listed : (i : ℕ) → i < tail → T (S (get_or queue i 0))
  pub placed : (w : ℕ) → T (S w) → (i : ℕ) × (i < tail) × (get_or queue i 0 ≡ w)
  pub counted : tail ≡ count n S
  pub once : (i j : ℕ) → i < j → j < tail → ¬ (get_or queue i 0 ≡ get_or queue j 0)

pub stored : (xs : List ℕ) (at x : ℕ) → at < length xs → Stored xs (set xs at x) at x
stored xs at x fits = record { here = get_or-set_same xs at x 0 fits; others = λ i other. get_or-set_other xs at i x 0 other }

-- what lies before the end stays
pub stored_below : {old new : List ℕ} {end x : ℕ} → Stored old new end x → (i : ℕ) → i < end → get_or new i 0 ≡ get_or old i 0
stored_below p i l = p.others i (λ e. omega arith)

-- the places below end + 1 are end and those below it
pub below_next : {X : Type 0} (end i : ℕ) → i < end + 1 → (i < end → X) → (i ≡ end → X) → X
below_next end i l = below_suc end i (omega arith)

pub queued_none : (n : ℕ) (S : Set) (queue : List ℕ) → ((v : ℕ) → T (S v) → ⊥) → Queued n S queue 0
queued_none n S queue none =
    record {
      listed = λ i l. absurd (omega arith);
      placed = λ w h. absurd (none w h);
      counted = sym (count_none n S (λ v l. none v));
      once = λ i j h k e. omega arith;
    }

module _ {n : ℕ} {S : Set} {queue : List ℕ} {tail : ℕ} (q : Queued n S queue tail) where
  pub queued_le : tail ≤ n
  queued_le = omega (arith, q.counted, count_le n S)

  module _ (x : ℕ) (below : x < n) (fresh : T (S x) → ⊥) where
    pub queued_room : tail < n
    queued_room = omega (arith, q.counted, count_room n x S below fresh)

    pub queued_more : {next : List ℕ} → Stored queue next tail x → Queued n (insert x S) next (tail + 1)
    queued_more {next} put =
        record {
          listed = λ i h.
              below_next
              tail
              i
              h
              (λ low. old (get_or next i 0) (subst (λ (w : ℕ). T (S w)) (sym (stored_below put i low)) (q.listed i low)))
              (λ e. subst (λ (k : ℕ). Member (get_or next k 0)) (sym e) (subst Member (sym put.here) new));
          placed = λ w h.
              ⊎_elim
              (λ e. (tail, omega arith, put.here ∙ sym (eqb→eq w x e)))
              (λ before. let at = q.placed w before in (at.0, omega (arith, at.1), stored_below put at.0 at.1 ∙ at.2))
              (or_yes (eqb w x) (S w) h);
          counted = ap (λ (k : ℕ). k + 1) q.counted ∙ sym (count_insert n x S below fresh);
          once = λ i j h k e.
              below_next
              tail
              j
              k
              (λ low. q.once i j h low (sym (stored_below put i (omega arith)) ∙ e ∙ stored_below put j low))
              (λ end.
              fresh
              (subst
              (λ (w : ℕ). T (S w))
              (sym (stored_below put i (omega arith)) ∙ e ∙ ap (λ (z : ℕ). get_or next z 0) end ∙ put.here)
              (q.listed i (omega arith))));
        }
      where
        Member : ℕ → Type 0
        Member w = T (eqb w x || S w)

        old : (w : ℕ) → T (S w) → Member w
        old w t = yes_or_right (eqb w x) (S w) t

        new : Member x
        new = yes_or_left (eqb x x) (S x) (eqb_refl x)
