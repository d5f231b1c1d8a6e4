use Rattle.quadratic.proofs.Confine.{shared-swap}
use Rattle.quadratic.proofs.affine.AffineSpace.shared.Goals as goal

pub returns-then-self-other : goal.returns-then-self-other
returns-then-self-other c = shared-swap c.confine.result c.args.other.now c.args.self.now c.confine.ensures
