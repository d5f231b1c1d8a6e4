use Rattle.std.proofs.Common.{◌≡◌}
use lib.Bits.{bit_xor}
use Rattle.quadratic.specs.Echelon.{row, combination}
use Rattle.quadratic.proofs.affine.AffineSpace.combination.Given as goal

-- the sum so far, and the combination of the rows that are left
abbrev pub invariant-loop-p : goal.invariant-loop-p
invariant-loop-p l = bit_xor l.sum (combination (row l.self.rows) l.p-iterator.left) ≡ combination (row l.self.rows) l.c
