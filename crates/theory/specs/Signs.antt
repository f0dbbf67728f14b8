-- Need, lack, rule 2 and the cover of a cut without signs: each as a statement about sums of numbers from 0 up.
use Rattle.std.specs.Prelude.{ℕ, zero, suc, ◌+◌, ◌-◌, ◌≤◌, Bool, true, false, cond, ◌↔◌, ◌≡◌, refl, T, ltb, ℤ, pos, negsuc, neg_ℤ, ◌+ℤ◌, ◌-ℤ◌, ◌≤ℤ◌}
use Rattle.std.proofs.Common.{add-zero, arith, sym, ap, ◌∙◌, leb→le, le→leb, ltb-true, ltb-false}
use Rattle.std.proofs.Math.Nat.{sub-zero}
use Rattle.std.proofs.Math.Dec.{leb-suc-zero}
use Rattle.std.proofs.Math.IntN.{sub_ℕ, +ℤ_assoc, +ℤ_comm, +ℤ-neg_ℤ_cancel, -ℤ-+ℤ_cancel, neg_ℤ-+ℤ, neg_ℤ-neg_ℤ}
use Rattle.std.specs.Int.Signed.{le_z}
use Rattle.plan.specs.Prefix.{above0}

pub minus : (a b : ℕ) → pos a -ℤ pos b ≡ sub_ℕ a b
minus a zero =
    ap pos (add-zero a ∙ sym (sub-zero a)) ∙ ap (λ (t : Bool). cond t (negsuc (0 - suc a)) (pos (a - 0))) (sym (leb-suc-zero a))
minus a (suc b) = refl

-- z is a − b if z + b is a
difference : (z : ℤ) (a b : ℕ) → z +ℤ pos b ≡ pos a → z ≡ sub_ℕ a b
difference z a b h = sym (+ℤ-neg_ℤ_cancel z (pos b)) ∙ ap (λ (w : ℤ). w -ℤ pos b) h ∙ minus a b

pub above0_minus : (a b : ℕ) → above0 (sub_ℕ a b) ≡ a - b
above0_minus a b = go (ltb a b) refl
  where
    go : (t : Bool) → ltb a b ≡ t → above0 (cond t (negsuc (b - suc a)) (pos (a - b))) ≡ a - b
    go true e = omega (arith, ltb-true a b e)
    go false e = refl

pub le_minus : (c a b : ℕ) → T (le_z (pos c) (sub_ℕ a b)) ↔ (c + b ≤ a)
le_minus c a b = go (ltb a b) refl
  where
    go : (t : Bool) → ltb a b ≡ t → T (le_z (pos c) (cond t (negsuc (b - suc a)) (pos (a - b)))) ↔ (c + b ≤ a)
    go true e = (λ t. absurd t, λ h. omega (arith, ltb-true a b e))
    go false e = (λ t. omega (arith, leb→le c (a - b) t, ltb-false a b e), λ h. le→leb c (a - b) (omega (arith, ltb-false a b e)))

-- two differences, compared by sums
pub minus_below : (a b c d : ℕ) → a + d ≤ c + b → sub_ℕ a b ≤ℤ sub_ℕ c d
minus_below a b c d h = record { le = go (ltb a b) (ltb c d) refl refl }
  where
    go : (t u : Bool) → ltb a b ≡ t → ltb c d ≡ u → T (le_z (cond t (negsuc (b - suc a)) (pos (a - b))) (cond u (negsuc (d - suc c)) (pos (c - d))))
    go true true e k = le→leb (d - suc c) (b - suc a) (omega (arith, ltb-true a b e, ltb-true c d k))
    go true false e k = tt
    go false true e k = absurd (omega (arith, ltb-false a b e, ltb-true c d k))
    go false false e k = le→leb (a - b) (c - d) (omega (arith, ltb-false a b e, ltb-false c d k))

-- a difference with its sign turned, and what is left if it is taken from the first number
pub minus_turned : (a b : ℤ) → neg_ℤ (a -ℤ b) ≡ b -ℤ a
minus_turned a b = neg_ℤ-+ℤ a (neg_ℤ b) ∙ ap (λ (z : ℤ). neg_ℤ a +ℤ z) (neg_ℤ-neg_ℤ b) ∙ +ℤ_comm (neg_ℤ a) b

pub minus_minus : (a b : ℤ) → a -ℤ (a -ℤ b) ≡ b
minus_minus a b = ap (λ (z : ℤ). a +ℤ z) (minus_turned a b) ∙ +ℤ_comm a (b -ℤ a) ∙ -ℤ-+ℤ_cancel b a

-- the takes of a front, f, less the tokens there
lack_sum : (f t X : ℤ) → f -ℤ (X -ℤ t) +ℤ X ≡ f +ℤ t
lack_sum f t X =
    ap (λ (z : ℤ). f +ℤ z +ℤ X) (minus_turned X t)
    ∙ +ℤ_assoc f (t -ℤ X) X
    ∙ ap (λ (z : ℤ). f +ℤ z) (-ℤ-+ℤ_cancel t X)

pub lack_minus : (f o g t : ℕ) → pos f -ℤ (pos o +ℤ pos g -ℤ pos t) ≡ sub_ℕ (f + t) (o + g)
lack_minus f o g t = difference (pos f -ℤ (pos (o + g) -ℤ pos t)) (f + t) (o + g) (lack_sum (pos f) (pos t) (pos (o + g)))

pub tokens_minus : (o g t : ℕ) → pos o +ℤ pos g -ℤ pos t ≡ sub_ℕ (o + g) t
tokens_minus o g t = minus (o + g) t

-- a difference less a number
pub less_minus : (a b c : ℕ) → sub_ℕ a b -ℤ pos c ≡ sub_ℕ a (c + b)
less_minus a b c =
    difference
    (sub_ℕ a b -ℤ pos c)
    a
    (c + b)
    (sym (+ℤ_assoc (sub_ℕ a b -ℤ pos c) (pos c) (pos b))
    ∙ ap (λ (z : ℤ). z +ℤ pos b) (-ℤ-+ℤ_cancel (sub_ℕ a b) (pos c) ∙ sym (minus a b))
    ∙ -ℤ-+ℤ_cancel (pos a) (pos b))

-- what an event may pass on
pub passed_minus : (i t g : ℕ) → pos i -ℤ pos t +ℤ pos g ≡ sub_ℕ (i + g) t
passed_minus i t g =
    difference
    (pos i -ℤ pos t +ℤ pos g)
    (i + g)
    t
    (+ℤ_assoc (pos i -ℤ pos t) (pos g) (pos t)
    ∙ ap (λ (z : ℤ). pos i -ℤ pos t +ℤ z) (+ℤ_comm (pos g) (pos t))
    ∙ sym (+ℤ_assoc (pos i -ℤ pos t) (pos t) (pos g))
    ∙ ap (λ (z : ℤ). z +ℤ pos g) (-ℤ-+ℤ_cancel (pos i) (pos t)))
