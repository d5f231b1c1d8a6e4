use Rattle.std.proofs.Common.{ap, ◌∙◌, inl, inr}
use Rattle.cyclotomic.proofs.Powers.{step}
use Rattle.cyclotomic.proofs.embedding.power.Goals as goal
use Rattle.cyclotomic.proofs.embedding.power.Goals.{then-left-eq1, else-left-eq1}

pub loop-left-preserved : goal.loop-left-preserved
loop-left-preserved g c =
    let m = g.R.Ring in
    step m.laws.comm (m.value c.loop-left.result) (m.value c.if-left-eq1.result) (m.value c.loop-left.square) _ c.loop-left.left
    c.times-square.ensures (elim c.if-left-eq1.branch [
      | then-left-eq1 w ↦ inl (w.if-left-eq1.true, ap m.value w.result-is ∙ w.times-result.ensures)
      | else-left-eq1 w ↦ inr (w.if-left-eq1.false, ap m.value w.result-is)
    ])
    ∙ c.loop-left.invariant
