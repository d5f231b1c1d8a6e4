-- Affine spaces of strings in reduced echelon form.
use Rattle.std.specs.Prelude.{ℕ, List, bit_and, bit_xor, slice_index}
use Rattle.quadratic.specs.Bits.{span}

abbrev pub row : List ℕ → ℕ → ℕ
row rows p = slice_index rows p

-- the combination of the rows that stand in c
unfoldable pub combination : (ℕ → ℕ) → ℕ → ℕ
combination R c = span R c 48

-- y without its bits at the pivots: y is in the space exactly when this is the shift
abbrev pub reduced : ℕ → (ℕ → ℕ) → ℕ → ℕ
reduced pivots R y = bit_xor y (combination R (bit_and y pivots))
