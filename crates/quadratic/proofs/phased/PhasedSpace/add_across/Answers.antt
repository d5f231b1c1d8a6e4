use Rattle.std.proofs.Common.{◌*◌, ap, ◌∙◌}
use Rattle.quadratic.specs.Bits.{dot, flag}
use Rattle.quadratic.specs.Moves.{turn}
use Rattle.quadratic.specs.Phase.{phase}
use Rattle.quadratic.proofs.Dots.{dot-lt}
use Rattle.quadratic.proofs.Extend.{across}
use Rattle.quadratic.proofs.Laws.{flag-lt}
use Rattle.quadratic.proofs.phased.PhasedSpace.add_across.Goals as goal

pub returns : goal.returns
returns c =
    let b = flag c.args.base in
    let w = c.args.w in
    let n = c.args.n in
    record {
      phases = λ y. c.add_parity.ensures.phases y
          ∙ ap (λ k. turn (2 * (2 * k) * dot n y) (phase c.add_product.new.self y)) c.from.ensures
          ∙ ap (turn (2 * (2 * b) * dot n y)) (c.add_product.ensures.phases y
          ∙ ap (turn (4 * (dot w y * dot n y))) (c.add_affine.ensures.phases y))
          ∙ across c.args.quarters b (dot w y) (dot n y) (flag-lt c.args.base) (dot-lt w y) (dot-lt n y) (phase c.args.self.now y);
      space = c.add_parity.ensures.space ∙ c.add_product.ensures.space ∙ c.add_affine.ensures.space;
    }
