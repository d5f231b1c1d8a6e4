use Rattle.std.proofs.Common.{◌≡◌, ℕ, length}
use Rattle.quadratic.specs.Bits.{bit}
use Rattle.quadratic.specs.Echelon.{row}
use Rattle.quadratic.proofs.Gather.{Gathered}
use Rattle.quadratic.proofs.affine.AffineSpace.columns.Given as goal

-- each column stands in the table but at the pivots that are left
abbrev pub invariant-loop-p : goal.invariant-loop-p
invariant-loop-p l = record {
  long : length l.table ≡ 48;
  columns : (i : ℕ) → Gathered (λ k. bit (row l.self.rows k) i) l.p-iterator.left (row l.table i);
}
