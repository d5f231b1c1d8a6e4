use Rattle.std.proofs.Common.{ℕ, ◌+◌, get_or, sym, subst}
use lib.Bits.{bit_xor}
use Rattle.quadratic.specs.Bits.{dot}
use Rattle.quadratic.proofs.Gather.{Filled, fill-more, placed}
use Rattle.quadratic.proofs.bits.odd_rows.Goals as goal

pub loop-p-preserved : goal.loop-p-preserved
loop-p-preserved c =
    let f = λ (k : ℕ). dot c.args.w (get_or c.args.table.now k 0) in
    let p = c.loop-p.p in
    let d = c.dot.ensures in
    subst (λ y. Filled f (p + 1) (bit_xor c.loop-p.odd y)) (sym (placed c.dot.result p d.small c.loop-p-test.true))
    (fill-more f p c.loop-p.odd c.dot.result d.small d.value c.loop-p.invariant)
