use Rattle.archive.proofs.Falling.{Sofar}
use Rattle.archive.proofs.pivots.pivots_of.Given as goal

abbrev pub invariant-loop-p : goal.invariant-loop-p
invariant-loop-p l = Sofar l.mask l.p-iterator.iter.left l.pivots.items
