-- A space inside another: its pivots are among the other's.
use Rattle.std.proofs.Common.{◌≡◌, ℕ, zero, suc, ◌*◌, ◌^◌, ◌<◌, ◌≤◌, sym, refl, ap, ◌∙◌, subst, lt_of_le_of_lt, one-mul, zero-mul, arith}
use lib.Bits.{bit_and, bit_xor, and_le_r, xor_zero_r}
use lib.Count.{ones}
use Rattle.quadratic.specs.Bits.{bit, sum}
use Rattle.quadratic.specs.Echelon.{row}
use Rattle.quadratic.specs.Strings.{Member, Under}
use Rattle.quadratic.specs.declared.affine.AffineSpace.{AffineSpace}
use Rattle.quadratic.proofs.Bitlaws.{digit, bit-lt, bit-and}
use Rattle.quadratic.proofs.Confine.{member-under, ones-under}
use Rattle.quadratic.proofs.Distinct.{pivot-of}
use Rattle.quadratic.proofs.Dots.{by_bits}
use Rattle.quadratic.proofs.Laws.{comb-zero}

sum-le : (f g : ℕ → ℕ) (n : ℕ) → ((k : ℕ) → f k ≤ g k) → sum f n ≤ sum g n
sum-le f g zero h = omega arith
sum-le f g (suc n) h = let a = sum-le f g n h in let b = h n in omega (arith, a, b)

-- a mask with all bits of another has at least as many
ones-mono : (n a b : ℕ) → a < 2 ^ n → b < 2 ^ n → ((k : ℕ) → bit a k ≤ bit b k) → ones a ≤ ones b
ones-mono n a b i j h = let l = sum-le (bit a) (bit b) n h in omega (arith, l, ones-under n a i, ones-under n b j)

-- the shift is a string of the space
shift-member : (s : AffineSpace) → Member s s.shift
shift-member s = (0, sym (ap (bit_xor s.shift) (comb-zero (row s.rows)) ∙ xor_zero_r s.shift))

module _ (s t : AffineSpace) (to : (y : ℕ) → Member s y → Member t y) where
  pivots-among : bit_and s.pivots t.pivots ≡ s.pivots
  pivots-among =
      by_bits (bit_and s.pivots t.pivots) s.pivots (λ p. bit-and s.pivots t.pivots p
      ∙ digit (λ b. bit s.pivots p ≡ b → b * bit t.pivots p ≡ b) (λ z. zero-mul (bit t.pivots p))
      (λ o. one-mul (bit t.pivots p) ∙ pivot-of s t to p o) (bit s.pivots p) (bit-lt s.pivots p) refl)

  -- so the dimension is no larger
  pub dimension-le : ones s.pivots ≤ ones t.pivots
  dimension-le = ones-mono 48 s.pivots t.pivots s.within t.within at
    where
      at : (p : ℕ) → bit s.pivots p ≤ bit t.pivots p
      at p = digit (λ b. bit s.pivots p ≡ b → b ≤ bit t.pivots p) (λ z. omega arith)
          (λ o. let e = pivot-of s t to p o in omega (arith, e)) (bit s.pivots p) (bit-lt s.pivots p) refl

  pub inside_under : (n : ℕ) → Under t n → Under s n
  inside_under n u = (
    subst (λ x. x < 2 ^ n) pivots-among (lt_of_le_of_lt (and_le_r s.pivots t.pivots) u.0),
    member-under t n s.shift u (to s.shift (shift-member s)),
  )
