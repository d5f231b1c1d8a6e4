-- The meaning of a phased space: one partial function on strings.
use Rattle.std.specs.Prelude.{◌≡◌, ℕ, ◌+◌, ◌-◌, ◌%◌, ◌≤◌, cond, Some, None, Option, ◌==◌, count_ones}
use Rattle.quadratic.specs.Echelon.{row, reduced}
use Rattle.quadratic.specs.Strings.{Under}
use Rattle.quadratic.specs.Value.{value_at}
use Rattle.quadratic.specs.declared.phased.PhasedSpace.{PhasedSpace}

-- the value of the form at y, if y is in the space
unfoldable pub phase : PhasedSpace → ℕ → Option ℕ
phase s y = cond (reduced s.space.pivots (row s.space.rows) y == s.space.shift) (Some (value_at s.form y)) None

-- one phase less another, where both are there
abbrev pub less : Option ℕ → Option ℕ → Option ℕ
less (Some a) (Some b) = Some ((a + (8 - b)) % 8)
less (Some a) None = None
less None b = None

abbrev pub phase_in : Option PhasedSpace → ℕ → Option ℕ
phase_in (Some s) y = phase s y
phase_in None y = None

-- the strings in both spaces, each with the phase of s less that of t
abbrev pub Meets : Option PhasedSpace → PhasedSpace → PhasedSpace → Type 0
Meets r s t = (y : ℕ) → phase_in r y ≡ less (phase s y) (phase t y)

-- among strings of n bits, what two spaces share has at least the sum of their dimensions less n
abbrev pub Wide : Option PhasedSpace → PhasedSpace → PhasedSpace → Type 0
Wide (Some m) s t = (n : ℕ) → Under s.space n → Under t.space n
    → count_ones s.space.pivots + count_ones t.space.pivots ≤ count_ones m.space.pivots + n
Wide None s t = Unit {0}

-- the same strings with the same phases
abbrev pub SamePhases : PhasedSpace → PhasedSpace → Type 0
SamePhases s t = (y : ℕ) → phase s y ≡ phase t y
