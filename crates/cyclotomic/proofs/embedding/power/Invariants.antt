use Rattle.std.proofs.Common.{◌≡◌}
use Rattle.cyclotomic.specs.Ring.{power}
use Rattle.cyclotomic.proofs.embedding.power.Given as goal

-- the result so far, times what is left of the power of the square, is the power asked for
abbrev pub invariant-loop-left : goal.invariant-loop-left
invariant-loop-left g l =
    let m = g.R.Ring in
    m.ops.times (m.value l.result) (power m.ops (m.value l.square) l.left)
    ≡ power m.ops (m.value l.initial.square) l.exponent

abbrev pub decreases-loop-left : goal.decreases-loop-left
decreases-loop-left g l = l.left
