use Rattle.std.proofs.Common.{eqb, ap, ◌∙◌}
use Rattle.quadratic.specs.Bits.{flag}
use Rattle.quadratic.specs.Echelon.{row}
use Rattle.quadratic.proofs.Confine.{reach-none, reach-empty, reach-cut, reach-all}
use Rattle.quadratic.proofs.Laws.{tested}
use Rattle.quadratic.proofs.Settle.{check-is}
use Rattle.quadratic.proofs.affine.AffineSpace.confine.Goals as goal

pub loop-i-init : goal.loop-i-init
loop-i-init c =
    let items = c.into_iter-i-iterator in
    reach-none c.args.self c.args.other.now items.result.left (ap (λ x. x.left) items.ensures.into_iter_gives ∙ c.set_bits-i-items.ensures)

pub returns-in-Empty : goal.returns-in-Empty
returns-in-Empty c =
    let b = c.bit.ensures in
    reach-empty _ _ c.args.other.now _ _ _ c.loop-i.invariant c.in-Some.ensures.steps c.turned-w.result
    (check-is c.args.other.now _ (row c.columns-columns.result _) (c.columns-columns.ensures.bits _) _ c.turned-w.ensures)
    (flag (eqb c.bit.result 1)) (tested c.bit.result _ b.value b.small) c.in-Empty.ensures.strings.1

pub loop-i-preserved : goal.loop-i-preserved
loop-i-preserved c =
    let b = c.bit.ensures in
    reach-cut _ _ c.args.other.now _ _ _ c.loop-i.invariant c.in-Some.ensures.steps c.turned-w.result
    (check-is c.args.other.now _ (row c.columns-columns.result _) (c.columns-columns.ensures.bits _) _ c.turned-w.ensures)
    (flag (eqb c.bit.result 1)) (tested c.bit.result _ b.value b.small)
    c.restrict.result c.restrict.new.self c.in_default.not-Empty c.restrict.ensures.strings

pub returns : goal.returns
returns c = reach-all c.args.self c.loop-i.self c.args.other.now c.loop-i.i-iterator.left c.in-None.ensures.steps c.loop-i.invariant
