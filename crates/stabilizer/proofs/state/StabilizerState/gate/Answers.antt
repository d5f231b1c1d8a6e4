use Rattle.std.proofs.Common.{◌≡◌, Some, sym, refl, rules}
use Rattle.stabilizer.specs.Gates.{gate_numbered}
use Rattle.stabilizer.proofs.Gating.{moved-below, gate-applied, gated}
use Rattle.stabilizer.proofs.Matrices.{gate-opposite}
use Rattle.stabilizer.proofs.state.StabilizerState.gate.Goals as goal

pub invariant_of-self : goal.invariant_of-self
invariant_of-self c =
    let s = c.args.self.now in
    let g = c.in_ok-gate.gate in
    let op = gate-opposite s.qubits g c.args.j c.args.l (sym c.if-not-takes.ensures) in
    let (p, h) = moved-below s.qubits _ _ op s.body c.apply.new.body c.apply.ensures.phases s.inside s.near in
    record {
      some = s.some;
      few = s.few;
      light = s.light;
      inside = p;
      near = h;
    }

pub returns : goal.returns
returns c =
    let s = c.args.self.now in
    let g = c.in_ok-gate.gate in
    let e : gate_numbered c.args.kind ≡ Some g = search rules in
    gated c.args.kind c.args.j c.args.l s _ g e
    (sym c.if-not-takes.ensures)
    (gate-applied s _ g c.args.j c.args.l refl refl c.apply.ensures)
