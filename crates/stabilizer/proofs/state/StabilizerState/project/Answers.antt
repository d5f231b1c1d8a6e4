use Rattle.std.proofs.Common.{◌≡◌, ℕ, ◌^◌, ◌<◌, List, Some, Ok, sym, refl, subst, lt_of_lt_of_le, arith, pow_mono}
use Rattle.stabilizer.specs.Calls.{Projected, ProjectedBy, impossible, exhausted, kept}
use Rattle.stabilizer.specs.Masks.{Masked, SignedMasks}
use Rattle.stabilizer.specs.Paulis.{Pauli, pauli_of, text_number}
use Rattle.stabilizer.specs.declared.pauli.PauliMasks.{PauliMasks}
use Rattle.stabilizer.specs.declared.state.StabilizerState.{StabilizerState}
use Rattle.stabilizer.proofs.Halving.{vanishes, stays, not-nothing, body_below, not-vanished, not_same, lowered}
use Rattle.stabilizer.proofs.Texts.{known}
use Rattle.stabilizer.proofs.state.StabilizerState.project.Goals as goal

-- The text is a Pauli operator for these qubits, with these masks: what holds of that operator is what the text has done.
by-text : (s : StabilizerState) (text : List ℕ) (m : PauliMasks) → 0 ≡ text_number s.qubits text → Masked (Ok m) (pauli_of text)
    → (a : ℕ) (s' : StabilizerState) → ((P : Pauli) → SignedMasks P m → m.flips < 2 ^ s.qubits → Projected P s a s')
    → ProjectedBy (text_number s.qubits text) (pauli_of text) s a s'
by-text s text m e read a s' done =
    let (P, p, h, l) = known s.qubits text m e read in
    subst (λ o. ProjectedBy (text_number s.qubits text) o s a s') (sym p) (subst (λ k. ProjectedBy k (Some P) s a s') e (done P h l))

pub project-requires : goal.project-requires
project-requires c =
    let s = c.args.self.now in
    let r = c.in_ok-operator.ensures in
    let (P, p, h, l) = known s.qubits c.args.text.now c.in_ok-operator.operator r.number r.masks in
    lt_of_lt_of_le l (pow_mono s.few)

pub returns-in-Unchanged : goal.returns-in-Unchanged
returns-in-Unchanged c =
    let s = c.args.self.now in
    let m = c.in_ok-operator.operator in
    let r = c.in_ok-operator.ensures in
    by-text s c.args.text.now m r.number r.masks 0 s
    (λ P h l. let b = stays m P s h c.in-Unchanged.ensures.1 in kept (not-nothing P s b) b)

pub returns-in-Empty : goal.returns-in-Empty
returns-in-Empty c =
    let s = c.args.self.now in
    let m = c.in_ok-operator.operator in
    let r = c.in_ok-operator.ensures in
    by-text s c.args.text.now m r.number r.masks 21 s (λ P h l. impossible (vanishes m P s h c.in-Empty.ensures.1))

pub returns-then-self-eq-MOST : goal.returns-then-self-eq-MOST
returns-then-self-eq-MOST c =
    let s = c.args.self.now in
    let m = c.in_ok-operator.operator in
    let r = c.in_ok-operator.ensures in
    let t = c.project.new.body in
    let sum = c.in-Restricted.ensures in
    by-text s c.args.text.now m r.number r.masks 22 s
    (λ P h l. exhausted (not-vanished m P s h l t sum) (not_same m P s h l t sum) c.if-self-eq-MOST.true)

pub invariant_of-self : goal.invariant_of-self
invariant_of-self c =
    let s = c.args.self.now in
    let m = c.in_ok-operator.operator in
    let r = c.in_ok-operator.ensures in
    let (P, p, h, l) = known s.qubits c.args.text.now m r.number r.masks in
    let (a, b) = body_below m P s h l c.project.new.body c.in-Restricted.ensures in
    let light = s.light in
    let ne = c.if-self-eq-MOST.false in
    record {
      some = s.some;
      few = s.few;
      light = omega arith;
      inside = a;
      near = b;
    }

pub returns-else-self-eq-MOST : goal.returns-else-self-eq-MOST
returns-else-self-eq-MOST c =
    let s = c.args.self.now in
    let m = c.in_ok-operator.operator in
    let r = c.in_ok-operator.ensures in
    by-text s c.args.text.now m r.number r.masks 0 _
    (λ P h l. lowered m P s h l c.project.new.body c.in-Restricted.ensures _ refl refl refl)
