-- The number that the plan judgement's verdict says is 0 exactly if the plan runs.
use Rattle.std.specs.Prelude.{ℕ, List, ◌↔◌, ◌≡◌, T, eqb}
use Rattle.std.proofs.Common.{sym, subst, eqb→eq}
use Rattle.std.proofs.Math.Dec.{eqb_refl}
use Rattle.finite.specs.Bounded.{all_yes, yes_all}
use Rattle.plan.specs.Prefix.{runs_at, runs}
use Rattle.place.specs.Place.{missing_at}
use Rattle.sheet.specs.Items.{net_of, plan_of}
use Rattle.sheet.specs.Table.{places_of}
use Rattle.summary.proofs.Laws.{runs_number}
use Rattle.summary.specs.Summary.{values_of}
use Rattle.plan_judgement.specs.Judgement.{plan_values}

pub runs_told : (s : List ℕ) → ((plan_values s).number ≡ 0) ↔ T (runs (net_of s) (plan_of s))
unfolding plan_values values_of runs runs_at
runs_told s =
    let by_number = runs_number (missing_at s) (places_of s) in (
      λ e.
          yes_all
          (places_of s)
          (runs_at (net_of s) (plan_of s))
          (λ p l. subst (λ (m : ℕ). T (eqb m 0)) (sym (by_number.0 e p l)) (eqb_refl 0)),
      λ t.
          by_number.1
          (λ p l. eqb→eq (missing_at s p) 0 (all_yes (places_of s) (runs_at (net_of s) (plan_of s)) t p l)),
    )
