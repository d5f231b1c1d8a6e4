-- The strings of a space, and what an operation does to them.
use Rattle.std.specs.Prelude.{◌≡◌, ℕ, suc, ◌+◌, ◌*◌, ◌^◌, ◌<◌, ◌≤◌, Bool, true, false, ◌⊎◌, Some, None, Option, ◌≢◌, bit_and, bit_xor, count_ones}
use Rattle.quadratic.specs.Bits.{bit, dot}
use Rattle.quadratic.specs.Echelon.{row, combination}
use Rattle.quadratic.specs.declared.affine.AffineSpace.{AffineSpace}
use Rattle.quadratic.specs.declared.affine.Outcome.{Outcome}
use Rattle.quadratic.specs.declared.affine.Outcome.TheVariants.{Unchanged, Empty, Restricted}

-- y is the shift and a combination of rows
abbrev pub Member : AffineSpace → ℕ → Type 0
Member s y = (c : ℕ) × (y ≡ bit_xor s.shift (combination (row s.rows) c))

-- the strings of s have n bits
abbrev pub Under : AffineSpace → ℕ → Type 0
Under s n = (s.pivots < 2 ^ n) × (s.shift < 2 ^ n)

-- the strings of s' are those strings of s whose parity with w is b; at most one row goes
pub record Half (s s' : AffineSpace) (w b : ℕ) : Type 0 where
  pub old : (y : ℕ) → Member s' y → Member s y
  pub parity : (y : ℕ) → Member s' y → dot w y ≡ b
  pub kept : (y : ℕ) → Member s y → dot w y ≡ b → Member s' y
  pub fewer : count_ones s.pivots ≤ count_ones s'.pivots + 1

abbrev pub Cut : Outcome → AffineSpace → AffineSpace → ℕ → ℕ → Type 0
Cut Unchanged s s' w b = (s' ≡ s) × ((y : ℕ) → Member s y → dot w y ≡ b)
Cut Empty s s' w b = (s' ≡ s) × ((y : ℕ) → Member s y → dot w y ≢ b)
Cut Restricted s s' w b = Half s s' w b

-- a restriction takes one pivot away
abbrev pub OneLess : Outcome → ℕ → ℕ → Type 0
OneLess Unchanged P P' = P' ≡ P
OneLess Empty P P' = P' ≡ P
OneLess Restricted P P' = (p : ℕ) × (bit P p ≡ 1) × (P' ≡ bit_xor P (2 ^ p))

-- the strings of s' are those of s with d added
pub record Moved (s s' : AffineSpace) (d : ℕ) : Type 0 where
  pub back : (y : ℕ) → Member s' y → Member s (bit_xor y d)
  pub moved : (y : ℕ) → Member s (bit_xor y d) → Member s' y

-- the strings of s' are those of s, and those with f added
pub record Doubled (s s' : AffineSpace) (f : ℕ) : Type 0 where
  pub either : (y : ℕ) → Member s' y → Member s y ⊎ Member s (bit_xor y f)
  pub old : (y : ℕ) → Member s y → Member s' y
  pub moved : (y : ℕ) → Member s (bit_xor y f) → Member s' y

-- s' has the strings that are in s and in t, or there is none
pub record Both (s s' t : AffineSpace) : Type 0 where
  pub first : (y : ℕ) → Member s' y → Member s y
  pub second : (y : ℕ) → Member s' y → Member t y
  pub all : (y : ℕ) → Member s y → Member t y → Member s' y
  pub wide : (n : ℕ) → Under s n → Under t n → count_ones s.pivots + count_ones t.pivots ≤ count_ones s'.pivots + n

abbrev pub Shared : Option AffineSpace → AffineSpace → AffineSpace → Type 0
Shared (Some s') s t = Both s s' t
Shared None s t = (y : ℕ) → Member s y → Member t y → ⊥

-- a row that may stand below the others, with its pivot at p
pub record Fitting (s : AffineSpace) (added p : ℕ) : Type 0 where
  pub place : p < 48
  pub on : bit added p ≡ 1
  pub most : added < 2 ^ suc p
  pub below : (q : ℕ) → bit s.pivots q ≡ 1 → p < q
  pub free : (q : ℕ) → bit (row s.rows q) p ≡ 0
  pub clear : bit s.shift p ≡ 0

abbrev pub Appended : Option ℕ → AffineSpace → AffineSpace → ℕ → Type 0
Appended (Some p) s s' added =
    Fitting s added p
    × (s'.pivots ≡ bit_xor s.pivots (2 ^ p))
    × ((q : ℕ) → row s'.rows q ≡ bit_xor (row s.rows q) (bit (2 ^ p) q * added))
    × (s'.shift ≡ s.shift)
Appended None s s' added = (s' ≡ s) × ((p : ℕ) → Fitting s added p → ⊥)

abbrev pub Shifted : Bool → AffineSpace → AffineSpace → ℕ → Type 0
Shifted true s s' h = (h < 2 ^ 48) × (bit_and h s.pivots ≡ 0) × (s'.pivots ≡ s.pivots) × (s'.rows ≡ s.rows) × (s'.shift ≡ h)
Shifted false s s' h = (s' ≡ s) × (h < 2 ^ 48 → bit_and h s.pivots ≢ 0)
