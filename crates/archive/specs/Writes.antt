-- What writing a state does to a buffer.
use Rattle.std.specs.Prelude.{◌≡◌, ℕ, suc, ◌+◌, ◌*◌, ◌/◌, ◌<◌, List, length, Some, None, count_ones, slice_index}
use Rattle.quadratic.specs.Bits.{bit}
use Rattle.quadratic.specs.Echelon.{row}
use Rattle.quadratic.specs.Fields.{coefficient_at, row_of, linear_of, coupling_of}
use Rattle.quadratic.specs.Quadratic.{link}
use Rattle.quadratic.specs.declared.phased.PhasedSpace.{PhasedSpace}
use Rattle.stabilizer.specs.declared.state.StabilizerState.{StabilizerState}
use Rattle.archive.specs.Bits.{bits_from}
use Rattle.stabilizer.specs.States.{SameState}
use Rattle.archive.specs.Layout.{bits_before_fill, padded, padding, alone_fault}
use Rattle.archive.specs.Held.{Holds, shift_place, linear_place, place_of_coupling}

-- how many bytes a state takes
abbrev pub length_of : StabilizerState → ℕ
length_of s = padded (bits_before_fill s.qubits (count_ones s.body.space.pivots)) / 8

-- b is the run of bytes of the state s: it has no fault, and it holds s, field by field
pub record RunOf (s : StabilizerState) (b : List ℕ) : Type 0 where
  pub sound : alone_fault b ≡ None
  pub holds : Holds b 0 s
  pub bytes : (i : ℕ) → slice_index b i < 256

-- the fields of s stand in b in their order, each at its place with its width and as the calls on a state answer it; then come zeros
-- up to the end of the last byte
pub record Laid (b : List ℕ) (n k : ℕ) (s : StabilizerState) : Type 0 where
  pub size : bits_from b 0 6 ≡ n
  pub rank : bits_from b 6 6 ≡ k
  pub weight : bits_from b 12 13 ≡ s.loss
  pub phase : bits_from b 25 3 ≡ s.body.form.phase
  pub rows : (a : ℕ) → a < k → row_of s.body (suc a) ≡ Some (bits_from b (28 + a * n) n)
  pub shift : bits_from b (28 + k * n) n ≡ s.body.space.shift
  pub linear : (a : ℕ) → a < k → linear_of s.body (suc a) ≡ Some (2 * bits_from b (linear_place 0 n k a) 2)
  pub coupling : (a c : ℕ) → a < c → c < k → coupling_of s.body (suc a) (suc c) ≡ Some (4 * bits_from b (place_of_coupling 0 n k a c) 1)
  pub fill : bits_from b (bits_before_fill n k) (padding (bits_before_fill n k)) ≡ 0
  pub long : 8 * length b ≡ padded (bits_before_fill n k)

abbrev pub LaidOut : StabilizerState → List ℕ → Type 0
LaidOut s b = Laid b s.qubits (count_ones s.body.space.pivots) s

-- every run of bytes d of a state t is b exactly where t has the amplitudes of s
pub record Telling (s : StabilizerState) (b : List ℕ) : Type 0 where
  pub sound : (t : StabilizerState) (d : List ℕ) → RunOf t d → b ≡ d → SameState s t
  pub complete : (t : StabilizerState) (d : List ℕ) → RunOf t d → SameState s t → b ≡ d

-- the k set bits of a mask, the highest first
pub record Falling (mask k : ℕ) (leads : List ℕ) : Type 0 where
  pub places : length leads ≡ k
  pub on : (a : ℕ) → a < k → bit mask (slice_index leads a) ≡ 1
  pub order : (a c : ℕ) → a < c → c < k → slice_index leads c < slice_index leads a
  pub all : (q : ℕ) → bit mask q ≡ 1 → (a : ℕ) × (a < k) × (q ≡ slice_index leads a)

-- the fields of a space with its phases stand in the bits, row by row
pub record RowsPut (b : List ℕ) (n k : ℕ) (leads : List ℕ) (s : PhasedSpace) : Type 0 where
  pub rows : (a : ℕ) → a < k → bits_from b (0 + 28 + a * n) n ≡ row s.space.rows (slice_index leads a)
  pub shift : bits_from b (shift_place 0 n k) n ≡ s.space.shift

pub record FormPut (b : List ℕ) (n k : ℕ) (leads : List ℕ) (s : PhasedSpace) : Type 0 where
  pub linear : (a : ℕ) → a < k → 2 * bits_from b (linear_place 0 n k a) 2 ≡ coefficient_at s (slice_index leads a)
  pub coupling : (a c : ℕ) → a < c → c < k
      → bits_from b (place_of_coupling 0 n k a c) 1 ≡ link s.form.coupling (slice_index leads a) (slice_index leads c)

pub record HeaderPut (b : List ℕ) (n k loss phase : ℕ) : Type 0 where
  pub size : bits_from b 0 6 ≡ n
  pub rank : bits_from b 6 6 ≡ k
  pub weight : bits_from b 12 13 ≡ loss
  pub phased : bits_from b 25 3 ≡ phase
