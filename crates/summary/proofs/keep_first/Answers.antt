-- `keep_first` rests on what its test and its match tell: nothing is missing, or the place comes after places where nothing is, or after a short one.
use Rattle.std.proofs.Common.{arith, ◌≡◌, sym, subst}
use Rattle.summary.specs.declared.Verdict.{Verdict}
use Rattle.summary.specs.declared.Verdict.TheVariants.{Runs, Short}
use Rattle.summary.specs.Summary.{NextVerdict}
use Rattle.summary.proofs.Verdicts.{same_after, short_after, kept_after}
use Rattle.summary.proofs.keep_first.Goals as goal

pub returns-then-m-eq0 : goal.returns-then-m-eq0
returns-then-m-eq0 c = same_after c.args.v c.args.p.0 c.args.m (omega arith)

pub returns-in-Runs : goal.returns-in-Runs
returns-in-Runs c =
    let runs : c.args.v ≡ Runs = search in
    subst (λ (v : Verdict). NextVerdict v c.args.p.0 c.args.m (Short c.args.p c.args.m)) (sym runs) (short_after c.args.p c.args.m (omega arith))

pub returns-in-Short : goal.returns-in-Short
returns-in-Short c =
    subst (λ (v : Verdict). NextVerdict v c.args.p.0 c.args.m (Short c.in-Short.q c.in-Short.k)) (sym c.in-Short.is) (kept_after c.in-Short.q c.in-Short.k c.args.p.0 c.args.m)
