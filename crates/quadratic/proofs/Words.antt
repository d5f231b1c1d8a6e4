-- Sums modulo 2^64 determine the exact sums, since these are small.
use Rattle.std.proofs.Common.{◌≡◌, ◌^◌, sym, ap, ◌∙◌, arith, pow_mono}
use lib.Count.{ones, ones-le}
use Rattle.cyclotomic.specs.Adjoin.{omegas}
use Rattle.cyclotomic.specs.Modular.{quads}
use Rattle.cyclotomic.specs.Signed.{signed, Sized}
use Rattle.cyclotomic.proofs.Lift.{modulo, modulo-powers, modulo-nil}
use Rattle.cyclotomic.proofs.Sizes.{sized-nil, sized-more, sized-powers, signed_back}
use Rattle.quadratic.specs.Sums.{total}
use Rattle.quadratic.specs.declared.intersection.Intersection.{Intersection}
use Rattle.quadratic.proofs.Cases.{by_space}

-- there are at most 2^48 strings, and each adds at most 1 to a coordinate
pub total-sized : (x : Intersection) → Sized (2 ^ 48) (total omegas x)
total-sized =
    by_space (λ x. Sized (2 ^ 48) (total omegas x)) (sized-more 0 (2 ^ 48) _ (omega arith) sized-nil)
    (λ s. let P = s.space.pivots in
    sized-more (2 ^ ones P) (2 ^ 48) _ (pow_mono (ones-le 48 P s.space.within)) (sized-powers _ (2 ^ ones P)))

total-modulo : (x : Intersection) → modulo (total omegas x) ≡ total quads x
total-modulo =
    by_space (λ x. modulo (total omegas x) ≡ total quads x) modulo-nil (λ s. modulo-powers _ (2 ^ ones s.space.pivots))

pub total-signed : (x : Intersection) → signed (total quads x) ≡ total omegas x
total-signed x = ap signed (sym (total-modulo x)) ∙ signed_back (total omegas x) (total-sized x)
