use Rattle.std.proofs.Common.{◌≡◌, ◌+◌}
use Rattle.quadratic.specs.Numbering.{spread}
use Rattle.quadratic.proofs.bits.deposit.Given as goal

-- what is put already, and what the places that are left get
abbrev pub invariant-loop-p : goal.invariant-loop-p
invariant-loop-p l = spread 48 l.mask l.c ≡ l.sum + spread 48 l.p-iterator.iter.left l.left
