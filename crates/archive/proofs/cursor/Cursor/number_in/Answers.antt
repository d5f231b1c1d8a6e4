use Rattle.std.proofs.Common.{[], Some, sym, ap, ◌∙◌, arith}
use Rattle.std.proofs.lemmas.Result.{err_from_is_err_and}
use Rattle.std.proofs.lemmas.Bool.Decides.{nat_tests}
use Rattle.archive.specs.declared.fault.StateFault.TheVariants.{Bits}
use Rattle.archive.specs.Layout.{ranged}
use Rattle.archive.proofs.Steps.{cut, broken, fine, fault-none}
use Rattle.archive.proofs.cursor.Cursor.number_in.Goals as goal

pub returns-in_err-value-clause-verdict : goal.returns-in_err-value-clause-verdict
returns-in_err-value-clause-verdict c =
    let h = c.in_err-value.ensures in
    let p = err_from_is_err_and c.from_residual.result c.from_residual.ensures.1 in
    rw (p.1, p.2) (cut _ _ (ranged _ _ _ _ _) [] h.short ∙ ap (λ f. Some (Bits f)) (sym h.fault))

pub returns-then-value-low-clause-verdict : goal.returns-then-value-low-clause-verdict
returns-then-value-low-clause-verdict c =
    let h = c.in_ok-value.ensures in
    broken _ _ (ranged _ _ _ _ _) [] _ h.value h.there _ (grind (arith, nat_tests, c.then-value-low.either))

pub returns-clause-verdict : goal.returns-clause-verdict
returns-clause-verdict c =
    let h = c.in_ok-value.ensures in
    fine _ _ (ranged _ _ _ _ _) [] _ h.value h.there (grind (arith, nat_tests)) ∙ fault-none _ _
