use Rattle.std.proofs.Common.{sym, ◌∙◌}
use Rattle.quadratic.proofs.Extend.{along}
use Rattle.quadratic.proofs.Left.{left-zero}
use Rattle.quadratic.proofs.phased.PhasedSpace.factor_along.Goals as goal

pub returns-then-rest-ne0 : goal.returns-then-rest-ne0
returns-then-rest-ne0 c = λ y m n. c.if-rest-ne0.true (c.rest.ensures ∙ left-zero c.args.self.now.space c.args.f y m n)

pub returns : goal.returns
returns c =
    along c.args.self.now c.args.f c.args.z c.gain.result.quarters c.gain.result.mask (sym c.rest.ensures ∙ c.if-rest-ne0.false) c.gain.ensures
