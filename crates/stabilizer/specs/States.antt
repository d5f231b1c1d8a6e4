-- What the calls on a state answer.
use Rattle.std.specs.Prelude.{◌≡◌, ℕ, ◌+◌, ◌^◌, ◌<◌, ◌≤◌, cond, ◌&&◌, pos, neg_ℤ, Some, None, Ok, Err, Option, Result, count_ones, nat_le, nat_lt}
use Rattle.cyclotomic.specs.Scalars.{Triple, triple_of, nought, unit}
use Rattle.cyclotomic.specs.declared.refusal.Refusal.{Refusal}
use Rattle.cyclotomic.specs.declared.scalar.Scalar.{Scalar}
use Rattle.quadratic.specs.Building.{Begun}
use Rattle.quadratic.specs.Phase.{phase}
use Rattle.quadratic.specs.declared.phased.PhasedSpace.{PhasedSpace}
use Rattle.stabilizer.specs.declared.state.StabilizerState.{StabilizerState}

-- a number of qubits outside 1 to 48 is refused with 2
abbrev pub open_number : ℕ → ℕ
open_number n = cond (nat_le 1 n && nat_le n 48) 0 2

-- n qubits, weight, dimension, shift and phase 0
pub record Opened (s : StabilizerState) (n : ℕ) : Type 0 where
  pub qubits : s.qubits ≡ n
  pub loss : s.loss ≡ 0
  pub body : Begun s.body 0

-- the parts of a state
pub record Sound (qubits loss : ℕ) (body : PhasedSpace) : Type 0 where
  pub some : 1 ≤ qubits
  pub few : qubits ≤ 48
  pub light : loss ≤ 4096
  pub inside : body.space.pivots < 2 ^ qubits
  pub near : body.space.shift < 2 ^ qubits

abbrev pub Assembled : Option StabilizerState → ℕ → ℕ → PhasedSpace → Type 0
Assembled (Some s) n l b = (s.qubits ≡ n) × (s.loss ≡ l) × (s.body ≡ b)
Assembled None n l b = Sound n l b → ⊥

-- a string number of 2^n or more is refused with 14
abbrev pub amplitude_number : StabilizerState → ℕ → ℕ
amplitude_number s y = cond (nat_lt y (2 ^ s.qubits)) 0 14

-- 2^((e - k)/2) ω^m for a string with the phase m, and 0 for one that is not in the space
abbrev pub amplitude_of : StabilizerState → Option ℕ → Triple
amplitude_of s (Some m) = unit (neg_ℤ (pos (s.loss + count_ones s.body.space.pivots))) m
amplitude_of s None = nought

abbrev pub amplitude : StabilizerState → ℕ → Triple
amplitude s y = amplitude_of s (phase s.body y)

abbrev pub AmplitudeAt : Result Scalar Refusal → StabilizerState → ℕ → Type 0
AmplitudeAt (Ok x) s y = triple_of x ≡ amplitude s y
AmplitudeAt (Err e) s y = Unit {0}

-- as many qubits, and the same amplitude at every string
pub record SameState (s t : StabilizerState) : Type 0 where
  pub qubits : s.qubits ≡ t.qubits
  pub amplitudes : (y : ℕ) → amplitude s y ≡ amplitude t y
