-- What the moves of a phased space do to its phases.
use Rattle.std.specs.Prelude.{◌≡◌, ℕ, ◌+◌, ◌*◌, ◌%◌, ◌^◌, ◌<◌, ◌≤◌, Bool, true, false, cond, Some, None, Option, ◌==◌, ◌≢◌, bit_xor, count_ones}
use Rattle.quadratic.specs.Bits.{bit, dot}
use Rattle.quadratic.specs.Phase.{phase}
use Rattle.quadratic.specs.Strings.{Member}
use Rattle.quadratic.specs.declared.affine.Outcome.{Outcome}
use Rattle.quadratic.specs.declared.affine.Outcome.TheVariants.{Unchanged, Empty, Restricted}
use Rattle.quadratic.specs.declared.phased.PhasedSpace.{PhasedSpace}

-- a phase with k added
abbrev pub turn : ℕ → Option ℕ → Option ℕ
turn k (Some m) = Some ((m + k) % 8)
turn k None = None

-- the strings stay, and k y is added to the phase at y
pub record Turned (s s' : PhasedSpace) (k : ℕ → ℕ) : Type 0 where
  pub phases : (y : ℕ) → phase s' y ≡ turn (k y) (phase s y)
  pub space : s'.space ≡ s.space

-- some strings of s have the parity b with w, and some have not: those that have it stay, with their phases
pub record Halved (s s' : PhasedSpace) (w b : ℕ) : Type 0 where
  pub phases : (y : ℕ) → phase s' y ≡ cond (dot w y == b) (phase s y) None
  pub kept : (y : ℕ) × (Member s.space y × (dot w y ≡ b))
  pub lost : (y : ℕ) × (Member s.space y × (dot w y ≢ b))
  pub rows : count_ones s'.space.pivots + 1 ≡ count_ones s.space.pivots

abbrev pub Kept : Outcome → PhasedSpace → PhasedSpace → ℕ → ℕ → Type 0
Kept Unchanged s s' w b = (s' ≡ s) × ((y : ℕ) → Member s.space y → dot w y ≡ b)
Kept Empty s s' w b = (s' ≡ s) × ((y : ℕ) → Member s.space y → dot w y ≢ b)
Kept Restricted s s' w b = Halved s s' w b

-- the phase at y is what it was at y with bit i turned over
abbrev pub Flipped : Bool → PhasedSpace → PhasedSpace → ℕ → Type 0
Flipped true s s' i = (i < 48) × ((y : ℕ) → phase s' y ≡ phase s (bit_xor y (2 ^ i))) × (s'.space.pivots ≡ s.space.pivots)
Flipped false s s' i = (48 ≤ i) × (s' ≡ s)

-- d leads from no string of s to another
abbrev pub Outside : PhasedSpace → ℕ → Type 0
Outside s d = (y : ℕ) → Member s.space y → Member s.space (bit_xor y d) → ⊥

-- the phase at y ⊕ f, and 4 ⟨z, y ⊕ f⟩, make up the phase at y turned by 2 q + 4 ⟨l, y⟩
abbrev pub Along : PhasedSpace → ℕ → ℕ → ℕ → ℕ → Type 0
Along s f z q l = (y : ℕ) → turn (4 * dot z (bit_xor y f)) (phase s (bit_xor y f)) ≡ turn (2 * q + 4 * dot l y) (phase s y)

-- the strings of s, with their phases, and those with d added, with 2 q + 4 ⟨z, y⟩ more
pub record Extended (s s' : PhasedSpace) (d q z : ℕ) : Type 0 where
  pub old : (y : ℕ) → Member s.space y → phase s' y ≡ phase s y
  pub new : (y : ℕ) → Member s.space y → phase s' (bit_xor y d) ≡ turn (2 * q + 4 * dot z y) (phase s y)
  pub none : (y : ℕ) → (Member s.space y → ⊥) → (Member s.space (bit_xor y d) → ⊥) → phase s' y ≡ None
  pub outside : Outside s d
  pub rows : count_ones s'.space.pivots ≡ count_ones s.space.pivots + 1

abbrev pub Grown : Bool → PhasedSpace → PhasedSpace → ℕ → ℕ → ℕ → Type 0
Grown true s s' d q z = Extended s s' d q z
Grown false s s' d q z = (s' ≡ s) × (d < 2 ^ 48 → (y : ℕ) → Member s.space y → Member s.space (bit_xor y d))

-- the phase at y is what it was at y with bit l turned over if bit j is 1
pub record Sheared (s s' : PhasedSpace) (j l : ℕ) : Type 0 where
  pub phases : (y : ℕ) → phase s' y ≡ phase s (bit_xor y (bit y j * 2 ^ l))
  pub rows : count_ones s'.space.pivots ≡ count_ones s.space.pivots

abbrev pub Controlled : Bool → PhasedSpace → PhasedSpace → ℕ → ℕ → Type 0
Controlled true s s' j l = (j < 48) × (l < 48) × (j ≢ l) × Sheared s s' j l
Controlled false s s' j l = (s' ≡ s) × (j < 48 → l < 48 → (j ≢ l) → ⊥)
