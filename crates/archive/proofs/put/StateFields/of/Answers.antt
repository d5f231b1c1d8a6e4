use Rattle.std.proofs.Common.{◌≡◌, ap, ◌∙◌, arith}
use lib.Count.{ones, ones-le}
use Rattle.archive.proofs.put.StateFields.of.Goals as goal

pub invariant_of-shape : goal.invariant_of-shape
invariant_of-shape c =
    let s = c.args.state.now in
    let m = c.pivots.ensures ∙ ap (λ t. t.space.pivots) c.body.ensures in
    let count : c.len.result ≡ ones s.body.space.pivots = c.len.ensures.value ∙ c.pivots_of-pivots.ensures.places ∙ ap ones m in
    record {
      few = omega (arith, s.few, c.qubits.ensures);
      fewer = omega (arith, ones-le s.qubits s.body.space.pivots s.inside, count, c.qubits.ensures);
    }
