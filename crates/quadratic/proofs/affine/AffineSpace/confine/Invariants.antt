use Rattle.quadratic.proofs.Confine.{Reached}
use Rattle.quadratic.proofs.affine.AffineSpace.confine.Given as goal

abbrev pub invariant-loop-i : goal.invariant-loop-i
invariant-loop-i l = Reached l.initial.self l.self l.other l.i-iterator.left
