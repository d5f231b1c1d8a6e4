use Rattle.std.proofs.Common.{subst}
use Rattle.quadratic.specs.Moves.{Outside}
use Rattle.quadratic.proofs.Shear.{turned-shear}
use Rattle.quadratic.proofs.Sight.{one-dot}
use Rattle.quadratic.proofs.phased.PhasedSpace.controlled_flip.Goals as goal

pub returns-in-Some : goal.returns-in-Some
returns-in-Some c = (
  c.if-j-ge48.false,
  c.if-l-ge48.false,
  c.if-j-l.false,
  turned-shear c.args.self.now c.add_parity.new.self c.add_product.new.self c.args.j c.args.l
      c.turned-control.result c.in-Some.turn.quarters c.in-Some.turn.mask c.turned.result
      (λ y. one-dot c.turned-control.result c.args.j y c.turned-control.ensures) c.turned.ensures
      c.in-Some.ensures c.add_parity.ensures c.add_product.ensures,
)

pub slide-requires : goal.slide-requires
slide-requires c = record {
  control = c.if-j-ge48.false;
  place = c.if-l-ge48.false;
  two = c.if-j-l.false;
  outside = subst (Outside c.args.self.now) c.turned.ensures c.in_default.ensures;
}
