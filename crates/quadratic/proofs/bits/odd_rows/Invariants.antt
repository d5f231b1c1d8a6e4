use Rattle.std.proofs.Common.{get_or}
use Rattle.quadratic.specs.Bits.{dot}
use Rattle.quadratic.proofs.Gather.{Filled}
use Rattle.quadratic.proofs.bits.odd_rows.Given as goal

abbrev pub invariant-loop-p : goal.invariant-loop-p
invariant-loop-p l = Filled (λ k. dot l.w (get_or l.table k 0)) l.p l.odd
