use Rattle.std.proofs.Common.{[], Some, sym, ap, ◌∙◌}
use Rattle.std.proofs.lemmas.Result.{err_from_is_err_and}
use Rattle.std.proofs.lemmas.Bool.{cond-true, cond-false, eq-eqb, ne_eqb}
use Rattle.archive.specs.declared.fault.StateFault.TheVariants.{Bits}
use Rattle.archive.specs.Layout.{shift}
use Rattle.archive.proofs.Steps.{cut, broken, fine, fault-none}
use Rattle.archive.proofs.cursor.Cursor.shift.Goals as goal

pub returns-in_err-value-clause-verdict : goal.returns-in_err-value-clause-verdict
returns-in_err-value-clause-verdict c =
    let h = c.in_err-value.ensures in
    let p = err_from_is_err_and c.from_residual.result c.from_residual.ensures.1 in
    rw (p.1, p.2) (cut _ _ (shift _ _ _ _) [] h.short ∙ ap (λ f. Some (Bits f)) (sym h.fault))

pub returns-then-value-leads-ne0-clause-verdict : goal.returns-then-value-leads-ne0-clause-verdict
returns-then-value-leads-ne0-clause-verdict c =
    let h = c.in_ok-value.ensures in
    let off = c.requires.mask c.in_ok-value.value ∙ ne_eqb _ _ c.if-value-leads-ne0.true in
    broken _ _ (shift _ _ _ _) [] _ h.value h.there _ (cond-false _ _ _ off)

pub returns-clause-verdict : goal.returns-clause-verdict
returns-clause-verdict c =
    let h = c.in_ok-value.ensures in
    let off = c.requires.mask c.in_ok-value.value ∙ eq-eqb _ _ c.if-value-leads-ne0.false in
    fine _ _ (shift _ _ _ _) [] _ h.value h.there (cond-true _ _ _ off) ∙ fault-none _ _
