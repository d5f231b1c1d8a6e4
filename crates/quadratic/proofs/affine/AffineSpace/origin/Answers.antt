use Rattle.std.proofs.Common.{suc, ◌^◌, replicate, sym, refl, ◌∙◌, pow_pos}
use lib.Bits.{and_zero_r}
use Rattle.quadratic.specs.Echelon.{row}
use Rattle.quadratic.proofs.Lists.{getD-zeros}
use Rattle.quadratic.proofs.affine.AffineSpace.origin.Goals as goal

pub invariant_of-result : goal.invariant_of-result
invariant_of-result c = record {
  within = pow_pos 48;
  low = λ p. rw (getD-zeros 48 p) (pow_pos (suc p));
  lead = λ p. and_zero_r (row (replicate 48 0) p) ∙ sym (and_zero_r (2 ^ p));
  idle = λ p z. getD-zeros 48 p;
  inside = pow_pos 48;
  clean = and_zero_r 0;
}

pub returns : goal.returns
returns c = record { pivots = refl; rows = getD-zeros 48; shift = refl }
