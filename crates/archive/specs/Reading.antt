-- A state while it is read: which rows and coefficients have been taken over from the bits.
use Rattle.std.specs.Prelude.{◌≡◌, ℕ, ◌*◌, ◌<◌, ◌≤◌, List, length, ◌≢◌, count_ones, slice_index}
use Rattle.quadratic.specs.Bits.{bit}
use Rattle.quadratic.specs.Echelon.{row}
use Rattle.quadratic.specs.Fields.{coefficient_at}
use Rattle.quadratic.specs.Quadratic.{link}
use Rattle.quadratic.specs.declared.phased.PhasedSpace.{PhasedSpace}
use Rattle.archive.specs.Bits.{bits_from}
use Rattle.archive.specs.Layout.{row_at, lead}
use Rattle.archive.specs.Held.{linear_place, place_of_coupling}

-- the first a rows stand in the space, and the shift is still 0
pub record Raised (b : List ℕ) (p n a : ℕ) (s : PhasedSpace) : Type 0 where
  pub count : count_ones s.space.pivots ≡ a
  pub pivots : (q : ℕ) → bit s.space.pivots q ≡ 1 → (j : ℕ) × (j < a) × (q ≡ lead (row_at b p n j))
  pub rows : (j : ℕ) → j < a → row s.space.rows (lead (row_at b p n j)) ≡ row_at b p n j
  pub shift : s.space.shift ≡ 0

-- the leads of the first a rows
pub record Listed (b : List ℕ) (p n a : ℕ) (leads : List ℕ) : Type 0 where
  pub places : length leads ≡ a
  pub listed : (j : ℕ) → j < a → slice_index leads j ≡ lead (row_at b p n j)

-- the leads of all k rows are pivots
abbrev pub OnPivots : List ℕ → ℕ → ℕ → ℕ → PhasedSpace → Type 0
OnPivots b p n k s = (j : ℕ) → j < k → bit s.space.pivots (lead (row_at b p n j)) ≡ 1

-- from s₀ to s the linear coefficients of the first a of k rows came to be those of the bits, and those of the others are 0
pub record LinearUpTo (b : List ℕ) (p n k a : ℕ) (s₀ s : PhasedSpace) : Type 0 where
  pub space : s.space ≡ s₀.space
  pub phase : s.form.phase ≡ s₀.form.phase
  pub done : (j : ℕ) → j < a → coefficient_at s (lead (row_at b p n j)) ≡ 2 * bits_from b (linear_place p n k j) 2
  pub todo : (j : ℕ) → a ≤ j → j < k → coefficient_at s (lead (row_at b p n j)) ≡ 0
  pub links : (i j : ℕ) → i < 48 → j < i → link s.form.coupling i j ≡ link s₀.form.coupling i j

abbrev pub link_at : List ℕ → ℕ → ℕ → PhasedSpace → ℕ → ℕ → ℕ
link_at b p n s i j = link s.form.coupling (lead (row_at b p n i)) (lead (row_at b p n j))

-- from s₀ to s nothing changed but couplings
pub record Linked (b : List ℕ) (p n k : ℕ) (s₀ s : PhasedSpace) : Type 0 where
  pub space : s.space ≡ s₀.space
  pub phase : s.form.phase ≡ s₀.form.phase
  pub linear : (q : ℕ) → q < 48 → coefficient_at s q ≡ coefficient_at s₀ q

-- the couplings of row a with the rows before row c came to be those of the bits, and those with the others are 0
pub record RowUpTo (b : List ℕ) (p n k a c : ℕ) (s₀ s : PhasedSpace) : Type 0 where
  pub same : Linked b p n k s₀ s
  pub done : (j : ℕ) → a < j → j < c → link_at b p n s a j ≡ bits_from b (place_of_coupling p n k a j) 1
  pub todo : (j : ℕ) → a < j → c ≤ j → j < k → link_at b p n s a j ≡ 0
  pub others : (i j : ℕ) → (i ≢ a) → i < j → j < k → link_at b p n s i j ≡ link_at b p n s₀ i j

-- the couplings of the first a rows came to be those of the bits, and those of the others with later ones are 0
pub record CouplingUpTo (b : List ℕ) (p n k a : ℕ) (s₀ s : PhasedSpace) : Type 0 where
  pub same : Linked b p n k s₀ s
  pub done : (i j : ℕ) → i < a → i < j → j < k → link_at b p n s i j ≡ bits_from b (place_of_coupling p n k i j) 1
  pub todo : (i j : ℕ) → a ≤ i → i < j → j < k → link_at b p n s i j ≡ 0
