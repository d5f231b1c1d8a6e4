-- What gates do to the phases of a space, and to the amplitudes of a state.
use Rattle.std.proofs.Common.{◌≡◌, ℕ, ◌+◌, ◌-◌, ◌%◌, ◌^◌, ◌<◌, Bool, true, false, pos, neg_ℤ, Some, None, Option, sym, refl, ap, ◌∙◌, subst, ap₂, arith}
use lib.Bits.{bit_xor, xor_zero_r}
use lib.Count.{ones}
use Rattle.std.proofs.lemmas.Bool.{cond-true}
use Rattle.quadratic.specs.Bits.{bit, dot}
use Rattle.quadratic.specs.Moves.{turn, Turned, Flipped, Controlled}
use Rattle.quadratic.specs.Phase.{phase}
use Rattle.quadratic.specs.declared.phased.PhasedSpace.{PhasedSpace}
use Rattle.quadratic.proofs.Extent.{phases-below, space-below}
use Rattle.quadratic.proofs.Dots.{dot-comm, dot-pow}
use Rattle.quadratic.proofs.Turning.{unturned}
use Rattle.stabilizer.specs.Calls.{rotated, Applied, AppliedBy, Gated}
use Rattle.stabilizer.specs.Gates.{Monomial, takes, gate_numbered, gate_matrix, operands_number}
use Rattle.stabilizer.specs.Moved.{Two, Moved}
use Rattle.stabilizer.specs.States.{amplitude_of}
use Rattle.stabilizer.specs.declared.gate.Gate.{Gate}
use Rattle.stabilizer.specs.declared.gate.Gate.TheVariants.{X, CNot}
use Rattle.stabilizer.specs.declared.state.StabilizerState.{StabilizerState}
use Rattle.stabilizer.proofs.Matrices.{Opposite}

-- ---- phases

-- the parity with a single bit
pub bit-of : (a w : ℕ) → w ≡ 2 ^ a → (y : ℕ) → dot w y ≡ bit y a
bit-of a w e y = ap (λ x. dot x y) e ∙ dot-comm (2 ^ a) y ∙ dot-pow y a

module _ (s s' : PhasedSpace) where
  -- turns that move no string
  pub turned-still : (k j : ℕ → ℕ) → Turned s s' k → ((y : ℕ) → k y ≡ j y) → (y : ℕ) → phase s' y ≡ turn (j y) (phase s (bit_xor y 0))
  turned-still k j h e y = h.phases y ∙ ap₂ (λ i x. turn i (phase s x)) (e y) (sym (xor_zero_r y))

  pub turned_rows : (k : ℕ → ℕ) → Turned s s' k → ones s'.space.pivots ≡ ones s.space.pivots
  turned_rows k h = ap (λ x. ones x.pivots) h.space

  pub moved-flip : (a b : ℕ) (r : Bool) → a < 48 → Flipped r s s' a → Moved X a b s s'
  moved-flip a b true l h = record { phases = λ y. h.1 y ∙ sym (unturned s (bit_xor y (2 ^ a)) 0 refl); rows = ap ones h.2 }
  moved-flip a b false l h = absurd (omega (arith, h.0))

  pub moved-controlled : (a b : ℕ) (r : Bool) → Two a b → Controlled r s s' a b → Moved CNot a b s s'
  moved-controlled a b true t h = record { phases = λ y. h.3.phases y ∙ sym (unturned s _ 0 refl); rows = h.3.rows }
  moved-controlled a b false t h = absurd (h.1 t.0 t.1 t.2)

-- ---- amplitudes

-- a string has a phase after the gate only where the string has one from which the matrix takes it
module _ (n : ℕ) (M N : Monomial) (op : Opposite n M N) (s s' : PhasedSpace) (law : (y : ℕ)
    → phase s' y ≡ turn (M.turn y) (phase s (M.move y))) where
  turned-some : (k : ℕ) (a : Option ℕ) (m : ℕ) → turn k a ≡ Some m → (i : ℕ) × (a ≡ Some i)
  turned-some k (Some i) m e = (i, refl)
  turned-some k None m e = let z : ◌≡◌ {A = ℕ} 0 1 = cc in absurd (omega arith)

  pub moved-below : s.space.pivots < 2 ^ n → s.space.shift < 2 ^ n → (s'.space.pivots < 2 ^ n) × (s'.space.shift < 2 ^ n)
  moved-below p h = space-below s' n (λ y m e.
      let (i, f) = turned-some (M.turn y) (phase s (M.move y)) m (sym (law y) ∙ e) in
      subst (λ x. x < 2 ^ n) (op.back y) (op.inside (M.move y) (phases-below s n p h (M.move y) i f)))

-- with the dimension and the weight as they were, a turned phase is a turned amplitude
amplitude-turned : (s s' : StabilizerState) → s'.loss ≡ s.loss → ones s'.body.space.pivots ≡ ones s.body.space.pivots
    → (k : ℕ) (a : Option ℕ) → amplitude_of s' (turn k a) ≡ rotated k (amplitude_of s a)
amplitude-turned s s' l d k (Some m) = ap₂ (λ p i. (1, neg_ℤ (pos p), i)) (ap₂ ◌+◌ l d) (once m k)
  where
    once : (m k : ℕ) → (m + k) % 8 % 8 ≡ (m % 8 + k) % 8
    once m k = omega arith
amplitude-turned s s' l d k None = refl

-- a gate that was applied to the body was applied to the state
pub gate-applied : (s s' : StabilizerState) (g : Gate) (j l : ℕ) → s'.qubits ≡ s.qubits → s'.loss ≡ s.loss
    → Moved g (s.qubits - j) (s.qubits - l) s.body s'.body → Applied (gate_matrix s.qubits g j l) s s'
gate-applied s s' g j l q e h = record {
  qubits = q;
  loss = e;
  dimension = h.rows;
  amplitudes = λ y. ap (amplitude_of s') (h.phases y) ∙ amplitude-turned s s' e h.rows _ _;
}

-- what a call of a gate that takes its qubits says
pub gated : (kind j l : ℕ) (s s' : StabilizerState) (g : Gate) → gate_numbered kind ≡ Some g → takes g s.qubits j l ≡ true
    → Applied (gate_matrix s.qubits g j l) s s' → Gated kind j l s 0 s'
gated kind j l s s' g e t h = record {
  number = sym (ap (λ o. operands_number o s.qubits j l) e ∙ cond-true _ 0 10 t);
  granted = λ z. subst (λ o. AppliedBy o j l s s') (sym e) h;
  refused = λ z. absurd (omega arith);
}
