-- A quadratic form with values in Z8, by its coefficients.
use Rattle.std.specs.Prelude.{ℕ, zero, suc, ◌+◌, ◌*◌, List, slice_index}
use Rattle.quadratic.specs.Bits.{bit, inner}

-- Q + Σ_{a < n} c_a (D_a + 4 Σ_{b < a} J_ab c_b)
abbrev pub quad : ℕ → (ℕ → ℕ) → (ℕ → ℕ → ℕ) → (ℕ → ℕ) → ℕ → ℕ
quad Q D J c zero = Q
quad Q D J c (suc n) = quad Q D J c n + c n * (D n + 4 * inner (J n) c n)

-- D_a, in {0, 2, 4, 6}
abbrev pub coef : ℕ → ℕ → ℕ → ℕ
coef odd neg a = 2 * bit odd a + 4 * bit neg a

-- J_ab / 4
abbrev pub link : List ℕ → ℕ → ℕ → ℕ
link rows a b = bit (slice_index rows a) b
