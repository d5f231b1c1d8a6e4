-- What a gate and a projection answer, and what they make of a state.
use Rattle.std.specs.Prelude.{◌≡◌, ℕ, zero, suc, ◌+◌, ◌%◌, ◌^◌, ◌<◌, List, ℤ, Some, None, Option, count_ones}
use Rattle.cyclotomic.specs.Adjoin.{Omega, omegas}
use Rattle.cyclotomic.specs.Ring.{two, wpow}
use Rattle.cyclotomic.specs.Scalars.{Triple, nought}
use Rattle.stabilizer.specs.Gates.{Monomial, gate_numbered, gate_number, gate_matrix}
use Rattle.stabilizer.specs.Paulis.{Pauli, pauli_of, pauli_matrix, text_number}
use Rattle.stabilizer.specs.States.{amplitude}
use Rattle.stabilizer.specs.Vectors.{entry}
use Rattle.stabilizer.specs.declared.gate.Gate.{Gate}
use Rattle.stabilizer.specs.declared.state.StabilizerState.{StabilizerState}

-- ω^k times a scalar
abbrev pub rotated_by : ℕ → ℤ → ℕ → ℕ → Triple
rotated_by zero p m k = nought
rotated_by (suc e) p m k = (1, p, (m + k) % 8)

abbrev pub rotated : ℕ → Triple → Triple
rotated k x = rotated_by x.0 x.1 x.2 k

-- the amplitudes of s' are the matrix times those of s
abbrev pub Transformed : Monomial → StabilizerState → StabilizerState → Type 0
Transformed M s s' = (y : ℕ) → amplitude s' y ≡ rotated (M.turn y) (amplitude s (M.move y))

-- the matrix of a gate was applied, and size, weight and dimension are as they were
pub record Applied (M : Monomial) (s s' : StabilizerState) : Type 0 where
  pub qubits : s'.qubits ≡ s.qubits
  pub loss : s'.loss ≡ s.loss
  pub dimension : count_ones s'.body.space.pivots ≡ count_ones s.body.space.pivots
  pub amplitudes : Transformed M s s'

abbrev pub AppliedBy : Option Gate → ℕ → ℕ → StabilizerState → StabilizerState → Type 0
AppliedBy (Some g) j l s s' = Applied (gate_matrix s.qubits g j l) s s'
AppliedBy None j l s s' = ⊥

-- a gate call on s answers the number a and leaves s'
pub record Gated (kind j l : ℕ) (s : StabilizerState) (a : ℕ) (s' : StabilizerState) : Type 0 where
  pub number : a ≡ gate_number s.qubits kind j l
  pub granted : a ≡ 0 → AppliedBy (gate_numbered kind) j l s s'
  pub refused : 0 < a → s' ≡ s

-- a matrix times a vector
abbrev pub applied : Monomial → (ℕ → Omega) → ℕ → Omega
applied M v y = omegas.times (wpow omegas (M.turn y)) (v (M.move y))

-- v and P v together: twice the projection of v onto P's +1 space
abbrev pub doubled : Pauli → (ℕ → Omega) → ℕ → Omega
doubled P v y = omegas.plus (v y) (applied (pauli_matrix P) v y)

-- all projected amplitudes are 0; they are the old ones; they are those of s'
abbrev pub Vanishes : Pauli → StabilizerState → Type 0
Vanishes P s = (y : ℕ) → y < 2 ^ s.qubits → doubled P (entry s) y ≡ omegas.nil

abbrev pub Becomes : Pauli → StabilizerState → StabilizerState → Type 0
Becomes P s s' = (y : ℕ) → y < 2 ^ s.qubits → omegas.times (two omegas) (entry s' y) ≡ doubled P (entry s) y

-- a projection on P answers the number a and leaves s'
pub data Projected (P : Pauli) (s : StabilizerState) : ℕ → StabilizerState → Type 0 where
  impossible : Vanishes P s → Projected P s 21 s
  exhausted : (Vanishes P s → ⊥) → (Becomes P s s → ⊥) → s.loss ≡ 4096 → Projected P s 22 s
  kept : (Vanishes P s → ⊥) → Becomes P s s → Projected P s 0 s
  halved : (s' : StabilizerState) → (Vanishes P s → ⊥) → (Becomes P s s → ⊥) → Becomes P s s' → s'.qubits ≡ s.qubits
      → s'.loss ≡ s.loss + 1 → Projected P s 0 s'

-- the same for a text, which may be no Pauli of this size
abbrev pub ProjectedBy : ℕ → Option Pauli → StabilizerState → ℕ → StabilizerState → Type 0
ProjectedBy zero (Some P) s a s' = Projected P s a s'
ProjectedBy zero None s a s' = ⊥
ProjectedBy (suc k) P s a s' = (a ≡ suc k) × (s' ≡ s)

-- a call of a gate or of a projection
pub data Call : Type 0 where
  gate : ℕ → ℕ → ℕ → Call
  project : List ℕ → Call

-- a call on s answers the number a and leaves s'
abbrev pub Step : Call → StabilizerState → ℕ → StabilizerState → Type 0
Step (gate kind j l) s a s' = Gated kind j l s a s'
Step (project text) s a s' = ProjectedBy (text_number s.qubits text) (pauli_of text) s a s'
