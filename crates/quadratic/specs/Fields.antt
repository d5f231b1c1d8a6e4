-- The coefficients of a phased space by position, and by the numbers of rows.
use Rattle.std.specs.Prelude.{ℕ, ◌*◌, Some, None, Option}
use Rattle.quadratic.specs.Echelon.{row}
use Rattle.quadratic.specs.Numbering.{place}
use Rattle.quadratic.specs.Quadratic.{coef, link}
use Rattle.quadratic.specs.declared.phased.PhasedSpace.{PhasedSpace}

abbrev pub coefficient_at : PhasedSpace → ℕ → ℕ
coefficient_at s p = coef s.form.odd s.form.neg p

abbrev pub coupling_between : PhasedSpace → ℕ → ℕ → ℕ
coupling_between s p q = 4 * link s.form.coupling p q

-- what stands at a position, if there is one
abbrev pub found : Option ℕ → (ℕ → ℕ) → Option ℕ
found (Some p) f = Some (f p)
found None f = None

abbrev pub found_both : Option ℕ → Option ℕ → (ℕ → ℕ → ℕ) → Option ℕ
found_both (Some p) (Some q) f = Some (f p q)
found_both (Some p) None f = None
found_both None q f = None

-- the position of row a
abbrev pub row_pivot : PhasedSpace → ℕ → Option ℕ
row_pivot s a = place 48 s.space.pivots a

abbrev pub row_of : PhasedSpace → ℕ → Option ℕ
row_of s a = found (row_pivot s a) (row s.space.rows)

abbrev pub linear_of : PhasedSpace → ℕ → Option ℕ
linear_of s a = found (row_pivot s a) (coefficient_at s)

abbrev pub coupling_of : PhasedSpace → ℕ → ℕ → Option ℕ
coupling_of s a b = found_both (row_pivot s a) (row_pivot s b) (coupling_between s)
