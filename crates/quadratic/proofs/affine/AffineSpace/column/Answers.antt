use Rattle.std.proofs.Common.{◌^◌, ap, ◌∙◌}
use lib.Bits.{xor_zero_l}
use Rattle.quadratic.specs.Bits.{dot}
use Rattle.quadratic.specs.Echelon.{row}
use Rattle.quadratic.proofs.Dots.{dot-comm, dot-pow}
use Rattle.quadratic.proofs.affine.AffineSpace.column.Goals as goal

pub returns : goal.returns
returns c =
    let R = row c.args.self.now.rows in
    let i = c.args.i in
    record {
      below = c.responses.ensures.below;
      bits = λ p. c.responses.ensures.bits p ∙ ap (λ w. dot w (R p)) (c.turned.ensures ∙ xor_zero_l (2 ^ i))
          ∙ dot-comm (2 ^ i) (R p) ∙ dot-pow (R p) i;
    }
