-- A parity in the place of a variable: from the contracts alone, over the value functions of the four forms on the way.
use Rattle.std.proofs.Common.{◌≡◌, ℕ, ◌+◌, ◌*◌, ◌%◌, ◌^◌, ◌<◌, sym, refl, ap, ◌∙◌, ap₂, add-zero, mod-eq_of_lt, one-mul, mul-zero, zero-mul, mul-one, arith}
use native.Mathlib.Decide.{ℕ_discrete}
use lib.Bits.{bit_and, bit_xor, xor_assoc, xor_self, xor_zero_r}
use lib.Count.{ones}
use Rattle.quadratic.specs.Bits.{bit, dot}
use Rattle.quadratic.proofs.Bitlaws.{digit, bit-lt, bit-xor, bit-and, bit-pow}
use Rattle.quadratic.proofs.Dots.{by_bits, dot-xor-r, dot-pow, dot-lt}
use Rattle.quadratic.proofs.Clear.{keep}

-- a row meets a point that is 0 at a as it does without its bit a
pub dot-keep : (x here a c : ℕ) → here ≡ 2 ^ a → bit c a ≡ 0 → dot (bit_xor x (bit_and x here)) c ≡ dot x c
unfolding dot
dot-keep x here a c e z =
    ap (λ n. ones n % 2)
    (by_bits (bit_and (bit_xor x (bit_and x here)) c) (bit_and x c)
    (λ k. bit-and (bit_xor x (bit_and x here)) c k ∙ one k ∙ sym (bit-and x c k)))
  where
    one : (k : ℕ) → bit (bit_xor x (bit_and x here)) k * bit c k ≡ bit x k * bit c k
    one k =
        elim (ℕ_discrete k a) [
          | yes i ↦ ap (λ b. bit (bit_xor x (bit_and x here)) k * b) (ap (bit c) i ∙ z)
              ∙ simp mul-zero (sym (ap (λ b. bit x k * b) (ap (bit c) i ∙ z) ∙ mul-zero (bit x k)))
          | no ne ↦ ap (λ b. b * bit c k) (keep x here a e k ne)
        ]

-- a mask without a does not see variable a turned over
dot-turn : (m a c : ℕ) → bit m a ≡ 0 → dot m (bit_xor c (2 ^ a)) ≡ dot m c
dot-turn m a c z = dot-xor-r m c (2 ^ a) ∙ ap (λ b. (dot m c + b) % 2) (dot-pow m a ∙ z) ∙ simp add-zero (mod-eq_of_lt (dot-lt m c))

back : (c e : ℕ) → bit_xor (bit_xor c e) e ≡ c
back c e = xor_assoc c e e ∙ ap (bit_xor c) (xor_self e) ∙ xor_zero_r c

module _ (a mask rest row t : ℕ) (v v₁ v₂ v₃ : ℕ → ℕ) (small : (c : ℕ) → v c < 8)
    (slope : (c : ℕ) → v (bit_xor c (2 ^ a)) ≡ (v c + (t + 4 * dot row c)) % 8)
    (off : (c : ℕ) → bit c a ≡ 0 → v₁ c ≡ v c) (free : (c : ℕ) → v₁ (bit_xor c (2 ^ a)) ≡ v₁ c)
    (h₂ : (c : ℕ) → v₂ c ≡ (v₁ c + t * dot mask c) % 8) (h₃ : (c : ℕ) → v₃ c ≡ (v₂ c + 4 * (dot mask c * dot rest c)) % 8)
    (m0 : bit mask a ≡ 0) (r0 : bit rest a ≡ 0) (same : (c : ℕ) → bit c a ≡ 0 → dot rest c ≡ dot row c) where
  pub subst-free : (c : ℕ) → v₃ (bit_xor c (2 ^ a)) ≡ v₃ c
  subst-free c =
      let d = bit_xor c (2 ^ a) in
      let m = dot-turn mask a c m0 in
      h₃ d ∙ ap₂ (λ x y. (x + 4 * y) % 8) (h₂ d ∙ ap₂ (λ x y. (x + t * y) % 8) (free c) m ∙ sym (h₂ c))
      (ap₂ (λ x y. x * y) m (dot-turn rest a c r0)) ∙ sym (h₃ c)

  at_zero : (c : ℕ) → bit c a ≡ 0 → dot mask c ≡ 0 → v₃ c ≡ v c
  at_zero c z m =
      h₃ c ∙ ap₂ (λ x y. (x + 4 * (y * dot rest c)) % 8) (h₂ c ∙ ap₂ (λ x y. (x + t * y) % 8) (off c z) m) m
      ∙ simp (mul-zero, zero-mul, add-zero) (ap (λ x. x % 8) (mod-eq_of_lt (small c)) ∙ mod-eq_of_lt (small c))

  at_one : (c : ℕ) → bit c a ≡ 1 → dot mask c ≡ 1 → v₃ c ≡ v c
  at_one c o m =
      let d = bit_xor c (2 ^ a) in
      let z : bit d a ≡ 0 = bit-xor c (2 ^ a) a ∙ ap₂ (λ x y. (x + y) % 2) o (bit-pow a) in
      let up = ap v (sym (back c (2 ^ a))) ∙ slope d in
      let one : v₁ c ≡ v d = sym (free c) ∙ off d z in
      let r : dot rest c ≡ dot row d = sym (dot-turn rest a c r0) ∙ same d z in
      h₃ c ∙ ap₂ (λ x y. (x + 4 * y) % 8) (h₂ c ∙ ap₂ (λ x y. (x + t * y) % 8) one m) (ap₂ (λ x y. x * y) m r)
      ∙ simp (mul-one, one-mul) (merge (v d) t (dot row d)) ∙ sym up
    where
      merge : (p t r : ℕ) → ((p + t) % 8 + 4 * r) % 8 ≡ (p + (t + 4 * r)) % 8
      merge p t r = omega arith

  pub subst-values : (c : ℕ) → bit c a ≡ dot mask c → v₃ c ≡ v c
  subst-values c h =
      digit (λ b. bit c a ≡ b → dot mask c ≡ b → v₃ c ≡ v c) (at_zero c) (at_one c) (bit c a) (bit-lt c a) refl (sym h)
