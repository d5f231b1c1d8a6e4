use Rattle.std.proofs.Common.{sym, ap, ◌∙◌}
use lib.Bits.{bit_xor, xor_zero_l, xor_zero_r}
use Rattle.quadratic.specs.Echelon.{row, combination}
use Rattle.quadratic.proofs.Laws.{comb-low, comb-zero, comb-next}
use Rattle.quadratic.proofs.affine.AffineSpace.combination.Goals as goal

pub loop-p-init : goal.loop-p-init
loop-p-init c =
    let R = row c.args.self.now.rows in
    let e = ap (λ x. x.left) c.into_iter-p-iterator.ensures.into_iter_gives ∙ c.set_bits-p-items.ensures in
    xor_zero_l (combination R c.into_iter-p-iterator.result.left) ∙ ap (combination R) e ∙ sym (comb-low R c.args.c)

pub loop-p-preserved : goal.loop-p-preserved
loop-p-preserved c =
    sym (comb-next (row c.args.self.now.rows) c.loop-p.p-iterator.left c.in-Some.p c.next.new.self.left c.loop-p.sum
    c.in-Some.ensures.steps)
    ∙ c.loop-p.invariant

pub returns : goal.returns
returns c =
    let R = row c.args.self.now.rows in
    sym (xor_zero_r c.loop-p.sum) ∙ ap (bit_xor c.loop-p.sum) (sym (ap (combination R) c.in-None.ensures.steps ∙ comb-zero R))
    ∙ c.loop-p.invariant
