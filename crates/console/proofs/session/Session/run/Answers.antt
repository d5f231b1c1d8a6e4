use Rattle.std.proofs.Common.{sym, subst, arith}
use Rattle.std.proofs.lemmas.List.{with_items_is}
use Rattle.console.specs.Commands.{Enters}
use Rattle.console.specs.declared.answer.Answer.TheVariants.{Number}
use Rattle.console.proofs.Running.{enters, put-back}
use Rattle.console.proofs.session.Session.run.Goals as goal

pub returns-in-OnState-clause-ran : goal.returns-in-OnState-clause-ran
returns-in-OnState-clause-ran c =
    rw c.in-OnState.is (put-back c.run_on.result c.in-OnState.name c.in-OnState.command c.args.operands.now c.run_on.new.operands
    c.args.self.now _ c.run_on.new.state c.named_mut.ensures.value c.run_on.ensures.ran)

pub returns-in-Host-clause-ran : goal.returns-in-Host-clause-ran
returns-in-Host-clause-ran c =
    let e = c.overlap-in-Host.ensures in
    let h = enters c.deref-in-Host.result.now c.deref-in-Host-2.result.now c.deref_mut.result.now c.overlap-in-Host.new.answer
    c.overlap-in-Host.result e.number e.granted e.refused e.rest in
    let k = rw (c.deref-in-Host.ensures.value, c.deref-in-Host-2.ensures.value, c.deref_mut.ensures.value) at h in
    let whole = with_items_is c.args.operands.now.buffer c.overlap-in-Host.new.answer (omega arith) in
    rw c.in-Host.is (subst (λ b. Enters c.args.operands.now.first.items c.args.operands.now.second.items
    (Number c.overlap-in-Host.result) c.args.operands.now.buffer.items b) (sym whole) k)
