-- A plan with some of its pairs only, in their order; and that "before" depends on the set of pairs alone.
use Rattle.std.specs.Prelude.{ℕ, ◌<◌, Bool, ◌↔◌, ◌≡◌, T, length, get_or}
use Rattle.std.proofs.Common.{arith, sym, ap, subst₂, ◌∙◌}
use Rattle.finite.specs.Chosen.{chosen}
use Rattle.finite.proofs.Chosen.{chosen_in, chosen_at, chosen_count, chosen_all}
use Rattle.plan.specs.Net.{Plan}
use Rattle.plan.specs.Order.{Before, pair, chain}
use Rattle.plan.specs.Compare.{PairsAmong, SamePairs}

-- the number in P of the pair i of those that pass
abbrev pub chosen_pair : Plan → (ℕ → Bool) → ℕ → ℕ
chosen_pair P f i = get_or (chosen P.pairs f) i 0

-- the pairs that pass, all else the same
abbrev pub only_pairs : Plan → (ℕ → Bool) → Plan
only_pairs P f =
    record {
      events = P.events;
      label = P.label;
      pairs = length (chosen P.pairs f);
      earlier = λ i. P.earlier (chosen_pair P f i);
      later = λ i. P.later (chosen_pair P f i);
    }

-- "Before" is monotone in the set of pairs.
module _ (P Q : Plan) where
  pub before_among : PairsAmong P Q → {u v : ℕ} → Before P u v → Before Q u v
  before_among among (pair i l) = let j = among i l in subst₂ (Before Q) (sym j.2) (sym j.3) (pair j.0 j.1)
  before_among among (chain b c) = chain (before_among among b) (before_among among c)

  pub pairs_before : SamePairs P Q → (u v : ℕ) → Before P u v ↔ Before Q u v
  pairs_before same u v = (before_among (λ i l. (i, omega (arith, same.pairs), same.earlier i l, same.later i l)), back)
    where
      back : {x y : ℕ} → Before Q x y → Before P x y
      back (pair i l) =
          let k : i < P.pairs = omega (arith, same.pairs) in
          subst₂ (Before P) (same.earlier i k) (same.later i k) (pair i k)
      back (chain b c) = chain (back b) (back c)

module _ (P : Plan) (f : ℕ → Bool) where
  -- Each pair that passes the one test has the ends of one that passes the other.
  pub only_among : (g : ℕ → Bool) → ((i : ℕ) → i < P.pairs → T (f i) → (j : ℕ) × (j < P.pairs) × T (g j) × (P.earlier i ≡ P.earlier j) × (P.later i ≡ P.later j))
      → PairsAmong (only_pairs P f) (only_pairs P g)
  only_among g h i l =
      let is = chosen_in f P.pairs i l in
      let other = h (chosen_pair P f i) is.0 is.1 in
      let at = chosen_at g P.pairs other.0 other.1 other.2 in (
        at.0,
        at.1,
        other.3 ∙ ap P.earlier (sym at.2),
        other.4 ∙ ap P.later (sym at.2),
      )

  -- Where all pairs pass, they are the pairs of the plan.
  pub only_all : ((i : ℕ) → i < P.pairs → T (f i)) → SamePairs (only_pairs P f) P
  only_all all =
      let count = chosen_count f P.pairs all in
      record {
        pairs = count;
        earlier = λ i l. ap P.earlier (chosen_all f P.pairs all i (omega (arith, count)));
        later = λ i l. ap P.later (chosen_all f P.pairs all i (omega (arith, count)));
      }
