use Rattle.quadratic.proofs.Settle.{check-is}
use Rattle.quadratic.proofs.affine.AffineSpace.check.Goals as goal

pub returns : goal.returns
returns c = check-is c.args.self.now c.args.i c.column.result c.column.ensures.bits _ c.turned.ensures
