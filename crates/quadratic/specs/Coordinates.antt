-- The coordinates of a sum over all strings.
use Rattle.std.specs.Prelude.{◌≡◌, ℕ, ◌^◌, ℤ, List, ◌++◌, codes}
use Rattle.std.specs.Fmt.{signed_decimal}
use Rattle.cyclotomic.specs.Adjoin.{omegas, quad}
use Rattle.cyclotomic.specs.Modular.{quads}
use Rattle.cyclotomic.specs.Signed.{signed, Sized}
use Rattle.quadratic.specs.Sums.{total}
use Rattle.quadratic.specs.declared.intersection.Intersection.{Intersection}

-- the words of the sum modulo 2^64, read as signed numbers, are the exact coordinates of the sum in Z[ω]; none is over 2^48 in size
pub record Coordinates (x : Intersection) (a0 a1 a2 a3 : ℤ) : Type 0 where
  pub words : quad a0 a1 a2 a3 ≡ signed (total quads x)
  pub exact : quad a0 a1 a2 a3 ≡ total omegas x
  pub sizes : Sized (2 ^ 48) (total omegas x)

-- the coordinates with a blank between each two
abbrev pub coordinates_text : ℤ → ℤ → ℤ → ℤ → List ℕ
coordinates_text a0 a1 a2 a3 =
    signed_decimal a0 ++ (codes " " ++ (signed_decimal a1 ++ (codes " " ++ (signed_decimal a2 ++ (codes " " ++ signed_decimal a3)))))
