-- A sheet is refused by its fault, or listed by what its examination handed on.
use Rattle.std.proofs.Common.{refl, sym, ap, ◌∙◌}
use Rattle.sheet.specs.Answered.{told_some}
use Rattle.sheet.specs.Told.{Told}
use Rattle.listed.proofs.ByFault.{listing_refused, listing_lines}
use Rattle.listed.proofs.put_listing.Goals as goal

pub returns-in-Ok : goal.returns-in-Ok
returns-in-Ok c =
    let clear = ap (λ (f : Told). f.number) c.in-Ok.ensures.fault in
    rw (listing_lines c.args.s.now 0 clear refl) (rw c.in-Ok.ensures.found.0 at c.put_lines.ensures)

pub returns-in-Err : goal.returns-in-Err
returns-in-Err c =
    let is = c.number.ensures ∙ ap (λ (f : Told). f.number) c.in-Err.ensures.fault in
    rw (listing_refused c.args.s.now _ is (λ z. told_some c.in-Err.fault (sym c.number.ensures ∙ z))) c.put_refused.ensures
