use Rattle.quadratic.specs.Bits.{dot}
use Rattle.quadratic.specs.Echelon.{row}
use Rattle.quadratic.proofs.Gather.{Gathered}
use Rattle.quadratic.proofs.affine.AffineSpace.responses.Given as goal

abbrev pub invariant-loop-p : goal.invariant-loop-p
invariant-loop-p l = Gathered (λ k. dot l.w (row l.self.rows k)) l.p-iterator.left l.l
