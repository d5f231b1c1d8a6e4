-- The value of a form at a point.
use Rattle.std.specs.Prelude.{◌≡◌, ℕ, ◌%◌, bit_and}
use Rattle.quadratic.specs.Bits.{bit}
use Rattle.quadratic.specs.Quadratic.{quad, coef, link}
use Rattle.quadratic.specs.declared.form.QuadraticForm.{QuadraticForm}

-- the terms of the variables below n, not yet reduced
abbrev pub terms : QuadraticForm → ℕ → ℕ → ℕ
terms f c = quad f.phase (coef f.odd f.neg) (link f.coupling) (bit c)

unfoldable pub value_at : QuadraticForm → ℕ → ℕ
value_at f c = terms f c 48 % 8

-- the form sees the variables of the mask alone
abbrev pub Sees : QuadraticForm → ℕ → Type 0
Sees f mask = (c : ℕ) → value_at f c ≡ value_at f (bit_and c mask)
