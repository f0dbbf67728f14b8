use Rattle.std.proofs.Common.{ℕ, List, ◌+◌, ◌-◌, ◌≡◌, ◌≤◌, arith, ap, sym, ◌∙◌, take, drop}
use Rattle.std.proofs.lemmas.List.{drop-take}
use Rattle.std.proofs.Math.Seq.{slice, length-slice}
use Rattle.text.specs.Put.{put_says}
use Rattle.writer.proofs.put_part.Goals as goal

part : (s : List ℕ) (from to : ℕ) → from ≤ to → take (to - from) (drop from s) ≡ slice from to s
part s from to l =
    let end : from + (to - from) ≡ to = omega arith in sym (drop-take from (to - from) s) ∙ ap (λ (k : ℕ). drop from (take k s)) end

pub returns-clause-put : goal.returns-clause-put
returns-clause-put c =
    let put = put_says c.put_word.ensures (slice c.args.from c.args.to c.args.s.now) (part _ _ _ c.requires.0) in
    (put, omega (arith, put.ends, length-slice c.args.from c.args.to c.args.s.now (omega arith)))
