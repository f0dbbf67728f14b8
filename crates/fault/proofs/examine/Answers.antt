-- The faults of the layout decide, or are absent: then the rest decide, and where they are absent too the sheet has no fault.
use Rattle.std.proofs.Common.{ℕ, List, ◌≡◌, sym, ap, ◌∙◌}
use Rattle.std.proofs.lemmas.Result.{err_from_is_err_and}
use Rattle.sheet.specs.Answered.{told_some}
use Rattle.sheet.specs.Faultless.{Faultless}
use Rattle.sheet.specs.Faults.{layout_faults, content_faults, first_fault, fault_of}
use Rattle.sheet.specs.Told.{Told, no_fault}
use Rattle.sheet.proofs.Faultless.{layout_decides, content_decides, faultless}
use Rattle.fault.proofs.examine.Goals as goal

-- a sheet whose layout has no fault is read as it is, and the rest decide
module _ (s r : List ℕ) (no_layout : no_fault ≡ first_fault layout_faults s) (same : r ≡ s) where
  decides : {t : Told} → t ≡ first_fault content_faults r → t ≡ fault_of s
  decides is = is ∙ ap (first_fault content_faults) same ∙ sym (content_decides s (ap (λ (t : Told). t.number) (sym no_layout)))

  clean : no_fault ≡ first_fault content_faults r → Faultless s
  clean is = faultless s (ap (λ (t : Told). t.number) (sym (decides is)))

pub returns-in_err-sheet-clause-fault : goal.returns-in_err-sheet-clause-fault
returns-in_err-sheet-clause-fault c =
    let e = err_from_is_err_and c.from_residual.result c.from_residual.ensures.1 in
    let is = c.in_err-sheet.ensures.fault in
    rw (e.1, e.2) (is ∙ sym (layout_decides _ (λ z. told_some _ (ap (λ (t : Told). t.number) is ∙ z))))

pub returns-in_err-content_fault-clause-fault : goal.returns-in_err-content_fault-clause-fault
returns-in_err-content_fault-clause-fault c =
    let e = err_from_is_err_and c.from_residual-in_err-content_fault.result c.from_residual-in_err-content_fault.ensures.1 in
    rw (e.1, e.2) (decides _ _ c.in_ok-sheet.ensures.fault c.in_ok-sheet.ensures.laid.0 c.in_err-content_fault.ensures.fault)

pub returns-clause-fault : goal.returns-clause-fault
returns-clause-fault c = decides _ _ c.in_ok-sheet.ensures.fault c.in_ok-sheet.ensures.laid.0 c.in_ok-content_fault.ensures.fault

pub returns-clause-found : goal.returns-clause-found
returns-clause-found c =
    let same = c.in_ok-sheet.ensures.laid.0 in
    let rows = c.in_ok-content_fault.ensures.rows in
    (same, clean _ _ c.in_ok-sheet.ensures.fault same c.in_ok-content_fault.ensures.fault, rw (sym same) rows)
