-- The integers are a ring. z is read as up z - down z, and the laws become equations of natural numbers that omega proves.
use Rattle.std.proofs.Common.{◌≡◌, ◌+◌, ◌*◌, ℤ, pos, ◌+ℤ◌, ◌*ℤ◌, ap, arith}
use borrow.Author.Differences.{up, down, same_in, sum_is_lem, product_is}
use lib.IntN.{+ℤ_assoc, +ℤ_comm, +ℤ_idr, +ℤ_invr, *ℤ_comm, *ℤ-one, one}
use Rattle.cyclotomic.specs.Ring.{CommLaws, RingLaws}
use Rattle.cyclotomic.specs.Adjoin.{ints, omegas}
use Rattle.cyclotomic.specs.AdjoinLaws

up-product : (a b : ℤ) → up (a *ℤ b) ≡ up a * up b + down a * down b
up-product a b = (product_is a b).0

down-product : (a b : ℤ) → down (a *ℤ b) ≡ up a * down b + down a * up b
down-product a b = (product_is a b).1

pub *ℤ-assoc : (x y z : ℤ) → (x *ℤ y) *ℤ z ≡ x *ℤ (y *ℤ z)
*ℤ-assoc x y z = same_in _ _ (simp (up-product, down-product) (omega arith))

pub *ℤ-plus : (x y z : ℤ) → x *ℤ (y +ℤ z) ≡ x *ℤ y +ℤ x *ℤ z
*ℤ-plus x y z =
    let e = sum_is_lem y z in
    same_in _ _
    (omega (
      arith,
      sum_is_lem (x *ℤ y) (x *ℤ z),
      product_is x (y +ℤ z),
      product_is x y,
      product_is x z,
      ap (◌*◌ (up x)) e,
      ap (◌*◌ (down x)) e,
    ))

*ℤ-unit : (x : ℤ) → x *ℤ pos 1 ≡ x
unfolding one
*ℤ-unit x = *ℤ-one x

pub int_laws : CommLaws ints
int_laws = record {
  plus_comm = +ℤ_comm;
  plus_assoc = +ℤ_assoc;
  plus_nil = +ℤ_idr;
  plus_neg = +ℤ_invr;
  times_comm = *ℤ_comm;
  times_assoc = *ℤ-assoc;
  times_one = *ℤ-unit;
  times_plus = *ℤ-plus;
}

pub omega-laws : RingLaws omegas
unfolding omegas
omega-laws = AdjoinLaws.tower_laws int_laws
