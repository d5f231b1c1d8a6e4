-- The words of Held and Reading, of the bits of a state that is read.
use Rattle.std.specs.Prelude.{ℕ, ◌+◌, List}
use Rattle.quadratic.specs.declared.phased.PhasedSpace.{PhasedSpace}
use Rattle.archive.specs.Bits.{bits_from}
use Rattle.archive.specs.Layout.{row_at}
use Rattle.archive.specs.Held.{Spans, Weighs, shift_place, linear_place, place_of_coupling}
use Rattle.archive.specs.Reading.{Raised, Listed, OnPivots, LinearUpTo, RowUpTo, CouplingUpTo}
use Rattle.archive.specs.declared.build.StateBits.{StateBits}

-- the fields
abbrev pub loss_in : StateBits → ℕ
loss_in s = bits_from s.bytes.now (s.start + 12) 13

abbrev pub phase_in : StateBits → ℕ
phase_in s = bits_from s.bytes.now (s.start + 25) 3

abbrev pub row_in : StateBits → ℕ → ℕ
row_in s a = row_at s.bytes.now s.start s.shape.n a

abbrev pub shift_in : StateBits → ℕ
shift_in s = bits_from s.bytes.now (shift_place s.start s.shape.n s.shape.k) s.shape.n

abbrev pub linear_in : StateBits → ℕ → ℕ
linear_in s a = bits_from s.bytes.now (linear_place s.start s.shape.n s.shape.k a) 2

abbrev pub coupling_in : StateBits → ℕ → ℕ → ℕ
coupling_in s a c = bits_from s.bytes.now (place_of_coupling s.start s.shape.n s.shape.k a c) 1

-- the space and the phases
abbrev pub SpansIn : StateBits → PhasedSpace → Type 0
SpansIn s body = Spans s.bytes.now s.start s.shape.n s.shape.k body

abbrev pub WeighsIn : StateBits → PhasedSpace → Type 0
WeighsIn s body = Weighs s.bytes.now s.start s.shape.n s.shape.k body

-- what has been taken over: the first a rows, and their leads
abbrev pub RaisedIn : StateBits → ℕ → PhasedSpace → Type 0
RaisedIn s a body = Raised s.bytes.now s.start s.shape.n a body

abbrev pub ListedIn : StateBits → ℕ → List ℕ → Type 0
ListedIn s a leads = Listed s.bytes.now s.start s.shape.n a leads

abbrev pub OnPivotsIn : StateBits → PhasedSpace → Type 0
OnPivotsIn s body = OnPivots s.bytes.now s.start s.shape.n s.shape.k body

-- the linear coefficients of the first a rows; the couplings of row a with the rows before row c; those of the first a rows
abbrev pub LinearIn : StateBits → ℕ → PhasedSpace → PhasedSpace → Type 0
LinearIn s a body body' = LinearUpTo s.bytes.now s.start s.shape.n s.shape.k a body body'

abbrev pub RowIn : StateBits → ℕ → ℕ → PhasedSpace → PhasedSpace → Type 0
RowIn s a c body body' = RowUpTo s.bytes.now s.start s.shape.n s.shape.k a c body body'

abbrev pub CouplingIn : StateBits → ℕ → PhasedSpace → PhasedSpace → Type 0
CouplingIn s a body body' = CouplingUpTo s.bytes.now s.start s.shape.n s.shape.k a body body'
