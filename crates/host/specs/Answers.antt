-- The number that the entry answers, and the four bytes that it writes.
use Rattle.std.specs.Prelude.{◌≡◌, ℕ, ◌+◌, ◌*◌, ◌/◌, ◌%◌, ◌^◌, ◌<◌, cond, List, [], ◌∷◌, Some, None, Option, ◌==◌, nat_lt, slice_index, unsigned_abs}
use Rattle.cyclotomic.specs.declared.refusal.Refusal.TheVariants.{Sizes}
use Rattle.cyclotomic.specs.Scalars.{Triple, triple_of}
use Rattle.cyclotomic.specs.declared.scalar.Scalar.{Scalar}
use Rattle.stabilizer.specs.Overlaps.{Overlaps}
use Rattle.stabilizer.specs.declared.state.StabilizerState.{StabilizerState}
use Rattle.archive.specs.Faults.{state_report}
use Rattle.archive.specs.Held.{Holds}
use Rattle.archive.specs.Layout.{size_at, alone_fault}
use Rattle.archive.specs.declared.fault.StateFault.{StateFault}
use Rattle.archive.specs.declared.container.Denial.{Denial}
use Rattle.archive.specs.declared.container.Denial.TheVariants.{Fault, Refused}

-- a fault, or else another denial; and the denial of a pair: the first's fault, the second's, different numbers of qubits, or none
abbrev pub denied_or : Option StateFault → Option (Denial StateFault) → Option (Denial StateFault)
denied_or (Some f) d = Some (Fault f)
denied_or None d = d

abbrev pub pair_denial : List ℕ → List ℕ → Option (Denial StateFault)
pair_denial t s = denied_or (alone_fault t) (denied_or (alone_fault s) (cond (size_at t 0 == size_at s 0) None (Some (Refused Sizes))))

-- the number of a fault, or else another
abbrev pub fault_or : Option StateFault → ℕ → ℕ
fault_or (Some f) n = (state_report f).number
fault_or None n = n

-- two runs of bytes: the first's fault, the second's, different numbers of qubits, or none of these
abbrev pub pair_number : List ℕ → List ℕ → ℕ
pair_number t s = fault_or (alone_fault t) (fault_or (alone_fault s) (cond (size_at t 0 == size_at s 0) 0 23))

-- before all, an answer that is too short
abbrev pub entry_number : List ℕ → List ℕ → ℕ → ℕ
entry_number t s room = cond (nat_lt room 4) 13 (pair_number t s)

-- ε in 1 bit, the power's size in 14, the turn in 3, and 14 zeros
abbrev pub word_of : Triple → ℕ
word_of x = ((x.0 * 2 ^ 14 + unsigned_abs x.1 % 2 ^ 14) * 8 + x.2) * 2 ^ 14

-- a word's four bytes, the highest first
abbrev pub bytes_of : ℕ → List ℕ
bytes_of w = w / 2 ^ 24 ∷ w / 2 ^ 16 % 256 ∷ w / 2 ^ 8 % 256 ∷ w % 256 ∷ []

-- x is the overlap of the states that two runs of bytes hold
pub record Overlapped (t s : List ℕ) (x : Scalar) : Type 0 where
  pub first : StabilizerState
  pub second : StabilizerState
  pub holds_first : Holds t 0 first
  pub holds_second : Holds s 0 second
  pub value : Overlaps x first second

-- the answer begins with the overlap's four bytes
pub record Answered (t s answer : List ℕ) : Type 0 where
  pub scalar : Scalar
  pub value : Overlapped t s scalar
  pub front : (k : ℕ) → k < 4 → slice_index answer k ≡ slice_index (bytes_of (word_of (triple_of scalar))) k
