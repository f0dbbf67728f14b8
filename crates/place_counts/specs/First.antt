-- The done set of the first short place, kept while the places are judged one after another.
use Rattle.std.specs.Prelude.{ℕ, ◌+◌, ◌<◌, Bool, true, false, List, ◌≡◌, refl, ltb, Option, Some, None}
use Rattle.std.specs.Bool.{then_some}
use Rattle.std.specs.Option.{option_or}
use Rattle.std.proofs.Common.{arith, ap, sym, ◌∙◌, ltb-true, ltb-false, below_more}
use Rattle.plan.specs.Prefix.{smallest}
use Rattle.sheet.specs.Items.{net_of, plan_of}
use Rattle.search.specs.Row.{members}
use Rattle.place.specs.Place.{missing_at}
use Rattle.summary.specs.Laws.{IsFirst}

-- Of the first k places: none is short, or one is, and these are the marks of the done set of the first that is.
pub record FirstTo (s : List ℕ) (k : ℕ) (f : Option (List ℕ)) : Type 0 where
  pub none : f ≡ None → (q : ℕ) → q < k → missing_at s q ≡ 0
  pub some : (done : List ℕ) → f ≡ Some done → (q : ℕ) × (q < k) × (0 < missing_at s q)
  pub set : (done : List ℕ) → f ≡ Some done → (p : ℕ) → p < k → IsFirst (missing_at s) p → smallest (net_of s) (plan_of s) p ≡ members done

-- The same of the place p alone: it isn't short, or these are the marks of its done set.
pub record DoneOf (s : List ℕ) (p : ℕ) (o : Option (List ℕ)) : Type 0 where
  pub none : o ≡ None → missing_at s p ≡ 0
  pub some : (done : List ℕ) → o ≡ Some done → (0 < missing_at s p) × (smallest (net_of s) (plan_of s) p ≡ members done)

pub first_start : (s : List ℕ) → FirstTo s 0 None
first_start s =
    record {
      none = λ _ q l. absurd (omega arith);
      some = λ done e. absurd (cc);
      set = λ done e. absurd (cc);
    }

-- the first short place stays
pub first_kept : (s : List ℕ) (k : ℕ) (d : List ℕ) → FirstTo s k (Some d) → FirstTo s (k + 1) (Some d)
first_kept s k d known =
    let q = known.some d refl in
    record {
      none = λ e. absurd (cc);
      some = λ done e. (q.0, omega (arith, q.1), q.2);
      set = λ done e. below_more (λ p. IsFirst (missing_at s) p → smallest (net_of s) (plan_of s) p ≡ members done) k (known.set done e) (λ h. absurd (omega (arith, h.before q.0 q.1, q.2)));
    }

-- with the place k too
pub first_more : (s : List ℕ) (k : ℕ) (f o : Option (List ℕ)) → FirstTo s k f → DoneOf s k o → FirstTo s (k + 1) (option_or f o)
first_more s k None None known here =
    record {
      none = λ _. below_more (λ q. missing_at s q ≡ 0) k (known.none refl) (here.none refl);
      some = λ done e. absurd (cc);
      set = λ done e. absurd (cc);
    }
first_more s k None (Some d) known here =
    record {
      none = λ e. absurd (cc);
      some = λ done e. (k, omega arith, (here.some d refl).0);
      set = λ done e. below_more (λ p. IsFirst (missing_at s) p → smallest (net_of s) (plan_of s) p ≡ members done) k (λ p l h. absurd (omega (arith, known.none refl p l, h.short))) (λ h. let same : d ≡ done = cc in (here.some d refl).1 ∙ ap members same);
    }
first_more s k (Some d) o known here = first_kept s k d known

-- The marks of the done set where something is missing, which is m.
pub done_of : (s : List ℕ) (p m : ℕ) (done : List ℕ) → m ≡ missing_at s p → (0 < missing_at s p → smallest (net_of s) (plan_of s) p ≡ members done)
    → (b : Bool) → b ≡ ltb 0 m → DoneOf s p (then_some b done)
done_of s p m done count set true e =
    let short : 0 < missing_at s p = omega (arith, ltb-true 0 m (sym e), count) in
    record {
      none = λ n. absurd (cc);
      some = λ d is. let same : done ≡ d = cc in (short, set short ∙ ap members same);
    }
done_of s p m done count set false e =
    record {
      none = λ _. omega (arith, ltb-false 0 m (sym e), count);
      some = λ d is. absurd (cc);
    }

-- a place after none that is short is the first, if it is short
pub first_here : (s : List ℕ) (k : ℕ) → FirstTo s k None → (m : ℕ) (done : List ℕ) → m ≡ missing_at s k
    → (0 < missing_at s k → smallest (net_of s) (plan_of s) k ≡ members done) → FirstTo s (k + 1) (then_some (ltb 0 m) done)
first_here s k known m done count set = first_more s k None (then_some (ltb 0 m) done) known (done_of s k m done count set (ltb 0 m) refl)
