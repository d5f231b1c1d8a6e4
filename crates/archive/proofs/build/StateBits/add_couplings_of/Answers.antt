use Rattle.std.proofs.Common.{get_or, arith}
use Rattle.quadratic.specs.Bits.{flag}
use Rattle.quadratic.proofs.Laws.{flag-lt}
use Rattle.archive.specs.Coefficients.{CouplingGrown}
use Rattle.archive.proofs.Coefficients.{nothing-grown}
use Rattle.archive.proofs.Leads.{order}
use Rattle.archive.proofs.Weighing.{row_more}
use Rattle.archive.proofs.build.StateBits.add_couplings_of.Goals as goal
use Rattle.archive.proofs.build.StateBits.add_couplings_of.Goals.{then-coupling, else-coupling}

pub add_coupling-requires-clause-order : goal.add_coupling-requires-clause-order
add_coupling-requires-clause-order c =
    let a = c.args.a in
    let i = c.loop-c.c in
    let t = c.requires.listed.listed in
    omega (arith, t a c.requires.row, t i c.loop-c-test.true, order _ _ _ _ c.args.self.now.sound i c.loop-c-test.true a (omega arith))

pub loop-c-preserved : goal.loop-c-preserved
loop-c-preserved c =
    let s = c.args.self.now in
    let a = c.args.a in
    let i = c.loop-c.c in
    let t = c.requires.listed.listed in
    let p = get_or c.args.pivots.now a 0 in
    let q = get_or c.args.pivots.now i 0 in
    let grown : CouplingGrown c.loop-c.body c.if-coupling.body p q (flag c.coupling.result) = elim c.if-coupling.branch [
      | then-coupling w ↦ rw (w.body-is, w.if-coupling.true) w.add_coupling.ensures
      | else-coupling w ↦ rw w.if-coupling.false (nothing-grown _ _ _ _ w.body-is)
    ] in
    row_more _ _ _ _ s.sound a i (omega arith) c.loop-c-test.true _ _ _ _ _ _ (t a c.requires.row) (t i c.loop-c-test.true)
    (flag-lt c.coupling.result) c.coupling.ensures c.loop-c.invariant grown
