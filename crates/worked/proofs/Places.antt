-- The strings of a space numbered by powers of two: each row alone, and two rows together.
use Rattle.std.proofs.Common.{◌≡◌, ℕ, zero, suc, ◌+◌, ◌-◌, ◌*◌, ◌/◌, ◌%◌, ◌^◌, ◌<◌, Some, None, Option, sym, refl, ap, ◌∙◌, ap₂, add-zero, one-mul, pow-suc, zero-add, zero-mul, arith}
use native.Mathlib.Decide.{ℕ_discrete}
use Rattle.quadratic.specs.Bits.{bit}
use Rattle.quadratic.specs.Numbering.{place, spread}
use Rattle.quadratic.proofs.Numbering.{place_here, place-passed, place-off, spread-on, spread-off}

pub some : {a b : ℕ} → ◌≡◌ {A = Option ℕ} (Some a) (Some b) → a ≡ b
some e = cc

pub none : {A : Type 0} {a : ℕ} → ◌≡◌ {A = Option ℕ} None (Some a) → A
none e = let z : ◌≡◌ {A = ℕ} 0 1 = cc in absurd (omega arith)

-- the first string has no row
pub spread-zero : (n mask : ℕ) → spread n mask 0 ≡ 0
unfolding spread
spread-zero zero mask = refl
spread-zero (suc n) mask = elim (ℕ_discrete (bit mask n) 1) [
  | yes on ↦ spread-on n mask 0 on ∙ ap (λ k. 0 * 2 ^ n + k) (spread-zero n mask) ∙ omega arith
  | no off ↦ spread-off n mask 0 off ∙ spread-zero n mask
]

pub place-below : (n mask a p : ℕ) → place n mask a ≡ Some p → p < n
unfolding place
place-below zero mask a p e = none e
place-below (suc n) mask a p e = elim (ℕ_discrete (bit mask n) 1) [
  | yes on ↦ elim (ℕ_discrete a 1) [
    | yes i ↦ let q = some (sym (place_here n mask a on i) ∙ e) in omega arith
    | no ne ↦ let l = place-below n mask (a - 1) p (sym (place-passed n mask a on ne) ∙ e) in omega arith
  ]
  | no off ↦ let l = place-below n mask a p (sym (place-off n mask a off) ∙ e) in omega arith
]

-- the string with the number 2^j has the row j + 1 alone
pub spread_row : (n mask j p : ℕ) → place n mask (suc j) ≡ Some p → spread n mask (2 ^ j) ≡ 2 ^ p
unfolding place
spread_row zero mask j p e = none e
spread_row (suc n) mask zero p e = elim (ℕ_discrete (bit mask n) 1) [
  | yes on ↦
      let q = some (sym (place_here n mask 1 on refl) ∙ e) in
      spread-on n mask 1 on ∙ ap (λ k. 1 * 2 ^ n + k) (spread-zero n mask) ∙ add-zero (1 * 2 ^ n) ∙ one-mul (2 ^ n) ∙ ap (λ k. 2 ^ k) q
  | no off ↦ spread-off n mask 1 off ∙ spread_row n mask zero p (sym (place-off n mask 1 off) ∙ e)
]
spread_row (suc n) mask (suc j) p e = elim (ℕ_discrete (bit mask n) 1) [
  | yes on ↦
      let t : 2 ^ suc j ≡ 2 ^ j * 2 = pow-suc 2 j in
      let r : 2 ^ suc j % 2 ≡ 0 = omega arith in
      let h : 2 ^ suc j / 2 ≡ 2 ^ j = omega arith in
      let one : suc (suc j) - 1 ≡ suc j = omega arith in
      spread-on n mask (2 ^ suc j) on ∙ ap₂ (λ a b. a * 2 ^ n + spread n mask b) r h
      ∙ ap (λ k. k + spread n mask (2 ^ j)) (zero-mul (2 ^ n))
      ∙ zero-add (spread n mask (2 ^ j)) ∙ spread_row n mask j p
      (sym (place-passed n mask (suc (suc j)) on (λ i. omega arith) ∙ ap (place n mask) one) ∙ e)
  | no off ↦ spread-off n mask (2 ^ suc j) off ∙ spread_row n mask (suc j) p (sym (place-off n mask (suc (suc j)) off) ∙ e)
]

-- rows 1 and 2 together; the pivot of row 1 is the higher
pub spread-both : (n mask p q : ℕ) → place n mask 1 ≡ Some p → place n mask 2 ≡ Some q → (spread n mask 3 ≡ 2 ^ p + 2 ^ q) × (q < p)
unfolding place
spread-both zero mask p q e f = none e
spread-both (suc n) mask p q e f = elim (ℕ_discrete (bit mask n) 1) [
  | yes on ↦
      let i = some (sym (place_here n mask 1 on refl) ∙ e) in
      let next = sym (place-passed n mask 2 on (λ i. omega arith)) ∙ f in
      let l = place-below n mask 1 q next in (
        spread-on n mask 3 on ∙ ap (λ k. 1 * 2 ^ n + k) (spread_row n mask 0 q next)
            ∙ ap (λ k. k + 2 ^ q) (one-mul (2 ^ n) ∙ ap (λ k. 2 ^ k) i),
        omega arith,
      )
  | no off ↦
      let h = spread-both n mask p q (sym (place-off n mask 1 off) ∙ e) (sym (place-off n mask 2 off) ∙ f) in
      (spread-off n mask 3 off ∙ h.0, h.1)
]
