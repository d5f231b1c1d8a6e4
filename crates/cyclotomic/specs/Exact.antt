-- The exact value of a scalar: a number of Z[ω], after multiplication by a power of √2.
use Rattle.std.specs.Prelude.{◌≡◌, ℕ, ◌-◌, ◌%◌, pos, ◌+ℤ◌}
use Rattle.cyclotomic.specs.Adjoin.{Omega, omegas}
use Rattle.cyclotomic.specs.Scalars.{Triple, chosen}

-- √2^n times ε · 2^(p/2) · ω^m, for an n with n + p not below 0
unfoldable pub scaled : ℕ → Triple → Omega
scaled n x = chosen omegas x.0 (pos n +ℤ x.1) x.2

-- the power of a scalar, if it is not 0, is not below -n
abbrev pub Floor : ℕ → Triple → Type 0
Floor n x = x.0 ≡ 1 → (k : ℕ) × (pos n +ℤ x.1 ≡ pos k)

-- the conjugate of (ε, p, m) is (ε, p, -m modulo 8)
abbrev pub mirrored : Triple → Triple
mirrored x = (x.0, x.1, (8 - x.2) % 8)
