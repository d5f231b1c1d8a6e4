-- The laws of `dot`, and those of `bit_and` that the library has not: digit by digit.
use Rattle.std.proofs.Common.{◌≡◌, ℕ, zero, suc, ◌+◌, ◌*◌, ◌%◌, ◌^◌, ◌<◌, ◌≤◌, refl, ap, ◌∙◌, ap₂, mod-eq_of_lt, mul_assoc, mul_comm, pow-suc, arith, pow_pos, pow_mono}
use mathlib.Core.Path.{fun_ext}
use lib.Bits.{bit_and, bit_xor, and_comm}
use lib.Pow.{pow-lt}
use lib.Count.{ones}
use Rattle.quadratic.specs.Bits.{bit, dot, sum}
use Rattle.quadratic.proofs.Bitlaws.{digit₃, bit-lt, bit-xor, bit-and, same_bits, dot-inner, bit-pow, bit-pow-other}
use Rattle.quadratic.proofs.Algebra.{inner-xor, inner-one}

-- a number has fewer digits than its value
pub below-pow : (x : ℕ) → x < 2 ^ x
below-pow zero = pow_pos 0
below-pow (suc x) = let h = below-pow x in let e = pow-suc 2 x in omega (arith, h, e)

below-pow-add : (x y : ℕ) → x < 2 ^ (x + y)
below-pow-add x y = let h : x ≤ x + y = omega arith in let p = pow_mono h in let b = below-pow x in omega (arith, p, b)

-- numbers with the same digits are equal
pub by_bits : (x y : ℕ) → ((i : ℕ) → bit x i ≡ bit y i) → x ≡ y
by_bits x y h =
    let e = add-comm-pow x y in
    same_bits (x + y) x y (below-pow-add x y) (rw e (below-pow-add y x)) (λ i l. h i)
  where
    add-comm-pow : (x y : ℕ) → 2 ^ (x + y) ≡ 2 ^ (y + x)
    add-comm-pow x y = ap (λ n. 2 ^ n) (omega arith)

pub and_assoc : (x y z : ℕ) → bit_and (bit_and x y) z ≡ bit_and x (bit_and y z)
and_assoc x y z =
    by_bits (bit_and (bit_and x y) z) (bit_and x (bit_and y z))
    (λ i. simp bit-and (mul_assoc (bit x i) (bit y i) (bit z i)))

pub and_xor : (x y z : ℕ) → bit_and x (bit_xor y z) ≡ bit_xor (bit_and x y) (bit_and x z)
and_xor x y z =
    by_bits (bit_and x (bit_xor y z)) (bit_xor (bit_and x y) (bit_and x z))
    (λ i. simp (bit-and, bit-xor) (digit₃ (λ p q r. p * ((q + r) % 2) ≡ (p * q + p * r) % 2) refl refl refl refl refl refl refl refl
    (bit x i) (bit y i) (bit z i) (bit-lt x i) (bit-lt y i) (bit-lt z i)))

pub dot-comm : (x y : ℕ) → dot x y ≡ dot y x
unfolding dot
dot-comm x y = ap (λ n. ones n % 2) (and_comm x y)

pub dot-lt : (x y : ℕ) → dot x y < 2
unfolding dot
dot-lt x y = omega arith

pub dot-xor-r : (x y z : ℕ) → dot x (bit_xor y z) ≡ (dot x y + dot x z) % 2
dot-xor-r x y z =
    let n = x in
    let h = below-pow x in
    let e = inner-xor (bit y) (bit z) (bit (bit_xor y z)) (bit-lt y) (bit-lt z) (bit-lt (bit_xor y z)) (bit-xor y z) (bit x) n in
    omega (arith, dot-inner n x (bit_xor y z) h, dot-inner n x y h, dot-inner n x z h, e)

pub dot-xor-l : (x y z : ℕ) → dot (bit_xor x y) z ≡ (dot x z + dot y z) % 2
dot-xor-l x y z = dot-comm (bit_xor x y) z ∙ dot-xor-r z x y ∙ ap₂ (λ p q. (p + q) % 2) (dot-comm z x) (dot-comm z y)

pub dot-pow : (x b : ℕ) → dot x (2 ^ b) ≡ bit x b
dot-pow x b =
    let n = suc b in
    dot-comm x (2 ^ b) ∙ dot-inner n (2 ^ b) x (pow-lt (omega arith))
    ∙ ap (λ s. s % 2) (ap (λ f. sum f n) (fun_ext (λ k. mul_comm (bit (2 ^ b) k) (bit x k)))
    ∙ inner-one (bit x) (bit (2 ^ b)) b n (omega arith) (bit-pow b) (λ k ne. bit-pow-other b k ne))
    ∙ mod-eq_of_lt (bit-lt x b)
