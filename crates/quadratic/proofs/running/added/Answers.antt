use Rattle.std.proofs.Common.{ap, ◌∙◌, arith}
use Rattle.quadratic.proofs.Added.{full, room, another, closes}
use Rattle.quadratic.proofs.running.added.Goals as goal

pub loop-preserved : goal.loop-preserved
loop-preserved g c =
    let e = c.in_default.ensures in
    another g.R.Ring.ops c.args.x.now _ _ _ _ _ c.loop.invariant e.count e.value (room c.loop.sum.count c.args.x.now e.number)

pub returns-in-Err-clause-closed : goal.returns-in-Err-clause-closed
returns-in-Err-clause-closed g c = λ e h l.
    let x = c.args.x.now in
    let refused = c.in-Err.ensures in
    ap (λ s. g.R.Ring.value s.value) refused.refused
    ∙ closes g.R.Ring.laws x e _ _ _ c.loop.invariant h (full c.loop.sum.count x c.in-Err.refusal refused.number)

pub returns-clause-closed : goal.returns-clause-closed
returns-clause-closed g c = λ e h l.
    let i = c.loop.invariant.calls_made in
    closes g.R.Ring.laws c.args.x.now e _ _ _ c.loop.invariant h (omega (arith, l, i, c.loop-test.false))
