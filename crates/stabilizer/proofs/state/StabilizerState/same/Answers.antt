use Rattle.std.proofs.Common.{◌≡◌, rules}
use Rattle.stabilizer.proofs.Same.{same_body, same-loss, same-state}
use Rattle.stabilizer.proofs.state.StabilizerState.same.Goals as goal

pub returns-then-eq : goal.returns-then-eq
returns-then-eq c =
    let s = c.args.self.now in
    let t = c.args.other.now in
    let q : s.qubits ≡ t.qubits = search rules in
    let l : s.loss ≡ t.loss = search rules in
    record {
      sound = λ b. same-state s t q l (c.same.ensures.sound b);
      complete = λ h. c.same.ensures.complete (same_body s t h);
    }

pub returns-else-eq-clause-complete : goal.returns-else-eq-clause-complete
returns-else-eq-clause-complete c = λ h.
    let s = c.args.self.now in
    let t = c.args.other.now in
    let q : s.qubits ≡ t.qubits = h.qubits in
    let l : s.loss ≡ t.loss = same-loss s t h in
    search rules
