use Rattle.std.proofs.Common.{sym, ap, ◌∙◌}
use lib.Bits.{bit_and}
use Rattle.quadratic.specs.Value.{value_at}
use Rattle.quadratic.proofs.Gain.{gained}
use Rattle.quadratic.proofs.Values.{value-lt, value-even}
use Rattle.quadratic.proofs.phased.PhasedSpace.gain.Goals as goal

pub returns : goal.returns
returns c =
    let s = c.args.self.now in
    let d = c.args.d in
    let P = s.space.pivots in
    let e = c.pivots.ensures in
    gained (value_at s.form) P d (bit_and d c.pivots.result) c.polar.result (value-lt s.form)
    (λ x. value-even s.form x ∙ sym (value-even s.form 0)) s.idle (ap (bit_and d) e) c.polar.ensures
    c.args.z c.value.result c.value-2.result c.dot.result c.pivots-2.result
    c.value.ensures.value c.value-2.ensures.value c.dot.ensures.value c.pivots-2.ensures
