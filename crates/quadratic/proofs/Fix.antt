-- One variable fixed: from the laws of shift and substitution alone.
use Rattle.std.proofs.Common.{◌≡◌, ℕ, ◌*◌, ◌^◌, ◌<◌, sym, ap, ◌∙◌, one-mul, mul-zero, zero-mul, mul-one}
use lib.Bits.{bit_xor, xor_assoc, xor_self, xor_zero_l, xor_zero_r, xor_lt}
use Rattle.quadratic.specs.Bits.{bit, dot}
use Rattle.quadratic.proofs.Bitlaws.{digit, bit-lt, bit-pow}
use Rattle.quadratic.proofs.Dots.{dot-lt, dot-pow}
use Rattle.quadratic.proofs.Linear.{bit-linear, dot-linear, linear-pick, pick-xor}

module _ (v v₁ v₂ : ℕ → ℕ) (a mask b : ℕ) (h₁ : (c : ℕ) → v₁ c ≡ v (bit_xor c (b * 2 ^ a)))
    (h₂ : (c : ℕ) → bit c a ≡ dot mask c → v₂ c ≡ v₁ c) (free : (c : ℕ) → v₂ (bit_xor c (2 ^ a)) ≡ v₂ c)
    (off : bit mask a ≡ 0) (small : b < 2) where
  pub any : (c j : ℕ) → j < 2 → v₂ (bit_xor c (j * 2 ^ a)) ≡ v₂ c
  any c j =
      digit (λ j. v₂ (bit_xor c (j * 2 ^ a)) ≡ v₂ c) (ap (λ x. v₂ (bit_xor c x)) (zero-mul (2 ^ a)) ∙ ap v₂ (xor_zero_r c))
      (ap (λ x. v₂ (bit_xor c x)) (one-mul (2 ^ a)) ∙ free c) j

  pub fixed : (c : ℕ) → v₂ c ≡ v (bit_xor c (bit_xor (bit c a) (bit_xor (dot mask c) b) * 2 ^ a))
  fixed c =
      let x = bit c a in
      let d = dot mask c in
      let j = bit_xor x d in
      let lx = bit-lt c a in
      let ld = dot-lt mask c in
      let lj : j < 2 = xor_lt 1 x d lx ld in
      let e = bit_xor c (j * 2 ^ a) in
      let own : bit e a ≡ d = bit-linear a c (j * 2 ^ a)
      ∙ ap (bit_xor x) (linear-pick (λ y. bit y a) (bit-linear a) j (2 ^ a) lj ∙ ap (λ y. j * y) (bit-pow a) ∙ mul-one j)
      ∙ sym (xor_assoc x x d) ∙ ap (λ y. bit_xor y d) (xor_self x) ∙ xor_zero_l d in
      let same : dot mask e ≡ d = dot-linear mask c (j * 2 ^ a)
      ∙ ap (bit_xor d) (linear-pick (dot mask) (dot-linear mask) j (2 ^ a) lj ∙ ap (λ y. j * y) (dot-pow mask a ∙ off) ∙ mul-zero j)
      ∙ xor_zero_r d in
      sym (any c j lj) ∙ h₂ e (own ∙ sym same) ∙ h₁ e
      ∙ ap v (xor_assoc c (j * 2 ^ a) (b * 2 ^ a)
      ∙ ap (bit_xor c) (sym (pick-xor j b (2 ^ a) lj small) ∙ ap (λ y. y * 2 ^ a) (xor_assoc x d b)))
