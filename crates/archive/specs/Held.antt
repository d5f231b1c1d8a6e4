-- What the bits from a place on hold: the fields of a state.
use Rattle.std.specs.Prelude.{◌≡◌, ℕ, zero, suc, ◌+◌, ◌-◌, ◌*◌, ◌<◌, ◌≤◌, true, List, length, count_ones}
use Rattle.quadratic.specs.Bits.{bit}
use Rattle.quadratic.specs.Echelon.{row}
use Rattle.quadratic.specs.Fields.{coefficient_at, coupling_between}
use Rattle.quadratic.specs.declared.phased.PhasedSpace.{PhasedSpace}
use Rattle.stabilizer.specs.declared.state.StabilizerState.{StabilizerState}
use Rattle.archive.specs.Bits.{bits_from}
use Rattle.archive.specs.Layout.{size_at, rank_at, row_at, lead, in_order, off_leads, bits_before_fill, padded, padding}

-- the places of the shift, of the linear coefficient of row a, and of the coupling of rows a and c
abbrev pub shift_place : ℕ → ℕ → ℕ → ℕ
shift_place p n k = p + 28 + k * n

abbrev pub linear_place : ℕ → ℕ → ℕ → ℕ → ℕ
linear_place p n k a = p + 28 + k * n + n + a * 2

-- how many pairs of k rows begin with a row before row a
abbrev pub pairs_before : ℕ → ℕ → ℕ
pairs_before k zero = 0
pairs_before k (suc a) = pairs_before k a + (k - suc a)

abbrev pub place_of_coupling : ℕ → ℕ → ℕ → ℕ → ℕ → ℕ
place_of_coupling p n k a c = p + 28 + k * n + n + k * 2 + pairs_before k a + (c - suc a)

-- the fields of a state of n qubits and dimension k at the place p keep their rules, and are all there
pub record Sound (b : List ℕ) (p n k : ℕ) : Type 0 where
  pub some : 1 ≤ n
  pub few : n ≤ 48
  pub fewer : k ≤ n
  pub light : bits_from b (p + 12) 13 ≤ 4096
  pub rows : (a : ℕ) → a < k → in_order b p n (row_at b p n a) a ≡ true
  pub shift : off_leads b p n (bits_from b (p + 28 + k * n) n) k ≡ true
  pub long : padded (p + bits_before_fill n k) ≤ 8 * length b
  pub fill : bits_from b (p + bits_before_fill n k) (padding (p + bits_before_fill n k)) ≡ 0

-- the rows and the shift at the place p, of n bits each; the pivots are the leads of the rows
pub record Spans (b : List ℕ) (p n k : ℕ) (s : PhasedSpace) : Type 0 where
  pub count : count_ones s.space.pivots ≡ k
  pub pivots : (q : ℕ) → bit s.space.pivots q ≡ 1 → (a : ℕ) × (a < k) × (q ≡ lead (row_at b p n a))
  pub rows : (a : ℕ) → a < k → row s.space.rows (lead (row_at b p n a)) ≡ row_at b p n a
  pub shift : s.space.shift ≡ bits_from b (shift_place p n k) n

-- the phase and the coefficients
pub record Weighs (b : List ℕ) (p n k : ℕ) (s : PhasedSpace) : Type 0 where
  pub phase : s.form.phase ≡ bits_from b (p + 25) 3
  pub linear : (a : ℕ) → a < k → coefficient_at s (lead (row_at b p n a)) ≡ 2 * bits_from b (linear_place p n k a) 2
  pub coupling : (a c : ℕ) → a < c → c < k
      → coupling_between s (lead (row_at b p n a)) (lead (row_at b p n c)) ≡ 4 * bits_from b (place_of_coupling p n k a c) 1

-- the bits from the place p on hold the state, field by field
pub record Holds (b : List ℕ) (p : ℕ) (s : StabilizerState) : Type 0 where
  pub qubits : s.qubits ≡ size_at b p
  pub weight : s.loss ≡ bits_from b (p + 12) 13
  pub spans : Spans b p (size_at b p) (rank_at b p) s.body
  pub weighs : Weighs b p (size_at b p) (rank_at b p) s.body
