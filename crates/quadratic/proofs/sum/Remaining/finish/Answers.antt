use Rattle.std.proofs.Common.{◌≡◌, sym, ap, ◌∙◌, arith}
use lib.Count.{ones}
use Rattle.quadratic.proofs.Eliminate.{ended}
use Rattle.quadratic.proofs.Lowest.{ones-zero}
use Rattle.quadratic.proofs.sum.Remaining.finish.Goals as goal

pub returns-in_err-step : goal.returns-in_err-step
returns-in_err-step c = rw c.from_residual.ensures (sym c.loop-self.invariant.same ∙ c.in_err-step.ensures)

pub returns : goal.returns
returns c =
    let s = c.loop-self.self in
    let inv = c.loop-self.invariant in
    let none : ones s.live ≡ 0 = ap ones c.loop-self-test.false ∙ ones-zero in
    record {
      same = sym (ended s.form s.live s.power c.loop-self-test.false) ∙ inv.same;
      least = omega (arith, none, inv.least);
      most = omega (arith, none, inv.most);
    }
