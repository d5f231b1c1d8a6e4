-- Coordinates modulo 2^64 read as signed numbers, and the size of coordinates.
use Rattle.std.specs.Prelude.{ℕ, ◌≤◌, unsigned_abs}
use Rattle.std.specs.Int.{w64}
use Rattle.std.proofs.Common.{to_z}
use Rattle.cyclotomic.specs.Adjoin.{Omega, quad}
use Rattle.cyclotomic.specs.Modular.{Quad}

-- each word in two's complement
abbrev pub signed : Quad → Omega
signed z = quad (to_z w64 z.re.re.0) (to_z w64 z.im.re.0) (to_z w64 z.re.im.0) (to_z w64 z.im.im.0)

-- no coordinate is over n in size
pub record Sized (n : ℕ) (z : Omega) : Type 0 where
  pub first : unsigned_abs z.re.re ≤ n
  pub second : unsigned_abs z.im.re ≤ n
  pub third : unsigned_abs z.re.im ≤ n
  pub fourth : unsigned_abs z.im.im ≤ n
