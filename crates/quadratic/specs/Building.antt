-- What the steps do by which a reader builds a phased space.
use Rattle.std.specs.Prelude.{◌≡◌, ℕ, ◌+◌, ◌*◌, ◌%◌, ◌≤◌, Bool, true, false, Option, ◌≢◌}
use Rattle.quadratic.specs.Bits.{bit}
use Rattle.quadratic.specs.Echelon.{row}
use Rattle.quadratic.specs.Strings.{Appended, Shifted}
use Rattle.quadratic.specs.Value.{value_at}
use Rattle.quadratic.specs.declared.phased.PhasedSpace.{PhasedSpace}

-- the zero string alone, with the phase q
pub record Begun (s : PhasedSpace) (q : ℕ) : Type 0 where
  pub pivots : s.space.pivots ≡ 0
  pub rows : (p : ℕ) → row s.space.rows p ≡ 0
  pub shift : s.space.shift ≡ 0
  pub phase : s.form.phase ≡ q
  pub value : (c : ℕ) → value_at s.form c ≡ q

abbrev pub RowAdded : Option ℕ → PhasedSpace → PhasedSpace → ℕ → Type 0
RowAdded r s s' added = Appended r s.space s'.space added × (s'.form ≡ s.form)

abbrev pub Reshifted : Bool → PhasedSpace → PhasedSpace → ℕ → Type 0
Reshifted r s s' h = Shifted r s.space s'.space h × (s'.form ≡ s.form)

-- times · c_p is added to the value at every c, where p is a pivot and times is 0, 2, 4 or 6
abbrev pub LinearAdded : Bool → PhasedSpace → PhasedSpace → ℕ → ℕ → Type 0
LinearAdded true s s' p times =
    (bit s.space.pivots p ≡ 1) × (times ≤ 6) × (times % 2 ≡ 0) × (s'.space ≡ s.space)
    × ((c : ℕ) → value_at s'.form c ≡ (value_at s.form c + times * bit c p) % 8)
LinearAdded false s s' p times = (s' ≡ s) × (bit s.space.pivots p ≡ 1 → times ≤ 6 → times % 2 ≢ 0)

-- 4 c_p c_q is added to the value at every c, where p and q are two pivots
abbrev pub Coupled : Bool → PhasedSpace → PhasedSpace → ℕ → ℕ → Type 0
Coupled true s s' p q =
    (bit s.space.pivots p ≡ 1) × (bit s.space.pivots q ≡ 1) × (p ≢ q) × (s'.space ≡ s.space)
    × ((c : ℕ) → value_at s'.form c ≡ (value_at s.form c + 4 * (bit c p * bit c q)) % 8)
Coupled false s s' p q = (s' ≡ s) × (bit s.space.pivots p ≡ 1 → bit s.space.pivots q ≡ 1 → (p ≢ q) → ⊥)
