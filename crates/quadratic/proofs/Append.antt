-- Rows that may stand below the others.
use Rattle.std.proofs.Common.{◌≡◌, ℕ, suc, ◌*◌, ◌%◌, ◌^◌, ◌<◌, ◌≤◌, sym, refl, ap, ◌∙◌, zero-mul, arith}
use native.Mathlib.Decide.{dec_lt}
use native.Mathlib.Nat.{zero-mod}
use lib.Bits.{bit_and}
use Rattle.quadratic.specs.Bits.{bit}
use Rattle.quadratic.specs.Strings.{Fitting}
use Rattle.quadratic.specs.declared.affine.AffineSpace.{AffineSpace}
use Rattle.quadratic.proofs.Bitlaws.{bit-lt, bit-and, bit-zero, bit_past, bit-low, same_low, digit}
use Rattle.quadratic.proofs.Dots.{by_bits}

-- a number has one highest bit
pub one-top : (x p q : ℕ) → bit x p ≡ 1 → x < 2 ^ suc p → bit x q ≡ 1 → x < 2 ^ suc q → q ≡ p
one-top x p q hp lp hq lq =
    let up = not-above x p q lp hq in
    let down = not-above x q p lq hp in
    omega arith
  where
    not-above : (x p q : ℕ) → x < 2 ^ suc p → bit x q ≡ 1 → q ≤ p
    not-above x p q l h =
        elim (dec_lt p q) [ yes g ↦ let z = bit_past (suc p) x q l g in absurd (omega arith) | no g ↦ omega arith ]

-- no bit below n is set exactly when 2^n divides
none-low : (n x : ℕ) → ((i : ℕ) → i < n → bit x i ≡ 0) → x % 2 ^ n ≡ 0
none-low n x h = same_low n x 0 (λ i l. h i l ∙ sym (bit-zero i)) ∙ zero-mod (2 ^ n)

pub low-none : (n x i : ℕ) → x % 2 ^ n ≡ 0 → i < n → bit x i ≡ 0
low-none n x i e l = sym (bit-low n x i l) ∙ ap (λ y. bit y i) e ∙ bit-zero i

-- a row below every pivot has no bit at one
pub below-off : (P x p : ℕ) → x < 2 ^ suc p → P % 2 ^ suc p ≡ 0 → bit_and x P ≡ 0
below-off P x p l e = by_bits (bit_and x P) 0 (λ i. bit-and x P i ∙ one i ∙ sym (bit-zero i))
  where
    one : (i : ℕ) → bit x i * bit P i ≡ 0
    one i =
        elim (dec_lt p i) [
          | yes g ↦ ap (λ b. b * bit P i) (bit_past (suc p) x i l g) ∙ zero-mul (bit P i)
          | no g ↦ ap (λ b. bit x i * b) (low-none (suc p) P i e (omega arith)) ∙ omega arith
        ]

-- the pivots of a fitting row lie above it
pub above : (s : AffineSpace) (x p : ℕ) → Fitting s x p → s.pivots % 2 ^ suc p ≡ 0
above s x p f =
    none-low (suc p) s.pivots
    (λ i l. digit (λ b. bit s.pivots i ≡ b → b ≡ 0) (λ z. refl) (λ o. let g = f.below i o in absurd (omega arith))
    (bit s.pivots i) (bit-lt s.pivots i) refl)
