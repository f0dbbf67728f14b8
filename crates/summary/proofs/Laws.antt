-- What the verdict and its number say, and that counts which agree come to the same.
use Rattle.std.specs.Prelude.{ℕ, ◌+◌, ◌≤◌, ◌<◌, ◌↔◌, ◌≡◌, refl, ltb}
use Rattle.std.proofs.Common.{arith, sym, subst, ◌∙◌, ltb-true, ltb-false, ltb→lt}
use Rattle.std.proofs.Math.Logic.{⊎_elim}
use Rattle.std.proofs.Math.Option.{Option, none, some}
use Rattle.std.proofs.Math.Path.{ap}
use Rattle.std.proofs.Math.Dec.{nltb→le}
use Rattle.finite.specs.Bounded.{decide}
use Rattle.finite.proofs.First.{first_is, first_none, first_ext}
use Rattle.finite.specs.Sum.{on, sum_ext}
use Rattle.summary.specs.declared.Totals.{Totals}
use Rattle.summary.specs.declared.Verdict.{Verdict}
use Rattle.summary.specs.declared.Verdict.TheVariants.{Runs, Short}
use Rattle.summary.specs.Summary.{total_missing, short_places, first_short, verdict_number, verdict_count, verdict_place}
use Rattle.summary.specs.Summary.{short_number, short_count, first_place, VerdictOf, PlanValues, values_in, values_of}
use Rattle.summary.specs.Laws.{FirstIn, VerdictSays, none_short}

module _ (missing : ℕ → ℕ) (n : ℕ) where
  -- the first short place is none, or one that is short with none before it
  abbrev FirstSays : Option ℕ → Type 0
  FirstSays none = (p : ℕ) → p < n → missing p ≡ 0
  FirstSays (some q) = FirstIn missing n q

  says_by : (o : Option ℕ) → first_short missing n ≡ o → FirstSays o
  says_by none e = λ p l. let few = ltb-false 0 (missing p) (first_none (λ q. ltb 0 (missing q)) n e p l) in omega arith
  says_by (some q) e =
      let found = first_is (λ p. ltb 0 (missing p)) n q e in
      let few : (p : ℕ) → p < q → missing p ≡ 0 = λ p l. let none-there = ltb-false 0 (missing p) (found.before p l) in omega arith in
      (found.below, record { short = ltb-true 0 (missing q) found.passes; before = few })

  number_fits : (o : Option ℕ) → FirstSays o → short_number o < 1000 + n
  number_fits none h = omega arith
  number_fits (some q) h = omega (arith, h.0)

  pub verdict_fits : short_number (first_short missing n) < 1000 + n
  verdict_fits = number_fits (first_short missing n) (says_by (first_short missing n) refl)

  far_from_13 : (o : Option ℕ) → ¬ (short_number o ≡ 13)
  far_from_13 none e = omega arith
  far_from_13 (some q) e = omega arith

  pub not_13 : ¬ (short_number (first_short missing n) ≡ 13)
  not_13 = far_from_13 (first_short missing n)

  verdict_by : (v : Verdict) (o : Option ℕ) → FirstSays o → verdict_number v ≡ short_number o → verdict_count v ≡ short_count missing o → VerdictSays missing n v
  verdict_by Runs none h number count = h
  verdict_by Runs (some q) h number count = absurd (omega arith)
  verdict_by (Short p m) none h number count = absurd (omega arith)
  verdict_by (Short p m) (some q) h number count =
      let same : p.0 ≡ q = omega arith in
      (subst (FirstIn missing n) (sym same) h, ap missing same ∙ sym count)

  pub verdict_says : (v : Verdict) → VerdictOf missing n v → VerdictSays missing n v
  verdict_says v is = verdict_by v (first_short missing n) (says_by (first_short missing n) refl) is.0 is.1

  none_when : (o : Option ℕ) → FirstSays o → ((p : ℕ) → p < n → missing p ≡ 0) → short_number o ≡ 0
  none_when none h nothing = refl
  none_when (some q) h nothing = absurd (omega (arith, h.1.short, nothing q h.0))

  none_so : (o : Option ℕ) → FirstSays o → short_number o ≡ 0 → (p : ℕ) → p < n → missing p ≡ 0
  none_so none h e = h
  none_so (some q) h e = absurd (omega arith)

  -- The number is 0 exactly if nothing is missing at any place,
  pub runs_number : (short_number (first_short missing n) ≡ 0) ↔ ((p : ℕ) → p < n → missing p ≡ 0)
  runs_number =
      let says = says_by (first_short missing n) refl in
      (none_so (first_short missing n) says, none_when (first_short missing n) says)

  first_so : (o : Option ℕ) → FirstSays o → (q : ℕ) → short_number o ≡ 1000 + q → FirstIn missing n q
  first_so none h q e = absurd (omega arith)
  first_so (some p) h q e = let same : p ≡ q = omega arith in subst (FirstIn missing n) same h

  first_when : (o : Option ℕ) → FirstSays o → (q : ℕ) → FirstIn missing n q → short_number o ≡ 1000 + q
  first_when none h q f = absurd (omega (arith, f.1.short, h q f.0))
  first_when (some p) h q f =
      let low : p ≤ q =
      ⊎_elim
      (λ t. absurd (omega (arith, f.1.short, h.1.before q (ltb→lt q p t))))
      (λ t. nltb→le q p t)
      (decide (ltb q p))
      in
      let high : q ≤ p =
      ⊎_elim
      (λ t. absurd (omega (arith, h.1.short, f.1.before p (ltb→lt p q t))))
      (λ t. nltb→le p q t)
      (decide (ltb p q))
      in
      omega arith

  -- and 1,000 plus the number of a place exactly if that is the first short one.
  pub short_number_lem : (q : ℕ) → (short_number (first_short missing n) ≡ 1000 + q) ↔ FirstIn missing n q
  short_number_lem q =
      let says = says_by (first_short missing n) refl in
      (first_so (first_short missing n) says q, first_when (first_short missing n) says q)

  place_fits : (o : Option ℕ) → FirstSays o → first_place o ≤ n
  place_fits none h = omega arith
  place_fits (some q) h = omega (arith, h.0)

  -- The place that is told is one of the n, or 0,
  pub first_fits : first_place (first_short missing n) ≤ n
  first_fits = place_fits (first_short missing n) (says_by (first_short missing n) refl)

  place_in : (o : Option ℕ) → FirstSays o → ¬ ((p : ℕ) → p < n → missing p ≡ 0) → FirstIn missing n (first_place o)
  place_in none h lacks = absurd (lacks h)
  place_in (some q) h lacks = h

  -- and where one is, the place that is told is the first of them;
  pub first_told : 0 < short_places missing n → FirstIn missing n (first_place (first_short missing n))
  first_told some-short =
      place_in
      (first_short missing n)
      (says_by (first_short missing n) refl)
      (λ nothing. omega (arith, (none_short missing n).1 nothing))

  place_by : (v : Verdict) (o : Option ℕ) → verdict_number v ≡ short_number o → verdict_place v ≡ first_place o
  place_by Runs none number = refl
  place_by Runs (some q) number = absurd (omega arith)
  place_by (Short p m) none number = absurd (omega arith)
  place_by (Short p m) (some q) number = omega arith

  -- and a verdict that tells the first short place tells its number.
  pub place_told : (v : Verdict) → VerdictOf missing n v → verdict_place v ≡ first_place (first_short missing n)
  place_told v is = place_by v (first_short missing n) is.0

module _ (f g : ℕ → ℕ) (n : ℕ) (same : (p : ℕ) → p < n → f p ≡ g p) where
  first_agrees : first_short f n ≡ first_short g n
  first_agrees = first_ext n (λ p. ltb 0 (f p)) (λ p. ltb 0 (g p)) (λ p l. ap (ltb 0) (same p l))

  count_agrees : (o : Option ℕ) → first_short g n ≡ o → short_count f o ≡ short_count g o
  count_agrees none e = refl
  count_agrees (some q) e = same q (first_is (λ p. ltb 0 (g p)) n q e).below

  -- counts that agree have the same values
  pub values_agree : values_of f n ≡ values_of g n
  unfolding values_of total_missing short_places
  values_agree =
      λ i.
      record {
        total = sum_ext n f g same i;
        short = sum_ext n (λ p. on (ltb 0 (f p)) 1) (λ p. on (ltb 0 (g p)) 1) (λ p l. ap (λ (m : ℕ). on (ltb 0 m) 1) (same p l)) i;
        number = short_number (first_agrees i);
        count = (ap (short_count f) first_agrees ∙ count_agrees (first_short g n) refl) i;
        first = first_place (first_agrees i);
      }

-- Verdicts that say the same number and count are the same,
same_verdict : (v w : Verdict) → verdict_number v ≡ verdict_number w → verdict_count v ≡ verdict_count w → v ≡ w
same_verdict Runs Runs number count = refl
same_verdict Runs (Short q m) number count = let wrong : ⊥ = omega arith in absurd wrong
same_verdict (Short p k) Runs number count = let wrong : ⊥ = omega arith in absurd wrong
same_verdict (Short p k) (Short q m) number count =
    let same : p.0 ≡ q.0 = omega arith in
    λ i. Short (record { 0 = same i }) (count i)

-- and so are totals with the same values.
pub values_once : (t u : Totals) → values_in t ≡ values_in u → t ≡ u
values_once t u e =
    let same = same_verdict t.verdict u.verdict (ap (λ (v : PlanValues). v.number) e) (ap (λ (v : PlanValues). v.count) e) in
    λ i. record { total = (e i).total; short = (e i).short; verdict = same i }
