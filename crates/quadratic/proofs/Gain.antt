-- What a form gains where a string is added.
use Rattle.std.proofs.Common.{◌≡◌, ℕ, ◌+◌, ◌-◌, ◌*◌, ◌/◌, ◌%◌, ◌<◌, sym, refl, ap, ◌∙◌, ap₂, mod-eq_of_lt, arith}
use lib.Bits.{bit_and, bit_xor}
use Rattle.quadratic.specs.Bits.{dot}
use Rattle.quadratic.proofs.Algebra.{carry, add8, cancel8}
use Rattle.quadratic.proofs.Bitlaws.{digit₃}
use Rattle.quadratic.proofs.Dots.{dot-lt, dot-xor-l, dot-xor-r}
use Rattle.quadratic.proofs.Laws.{dot-and}
use Rattle.quadratic.proofs.Linear.{and-linear}
use Rattle.quadratic.proofs.Sight.{Seen}

-- an even difference, in quarters
half : (U O : ℕ) → O < 8 → U % 2 ≡ O % 2 → 2 * ((U + 8 - O) % 8 / 2) ≡ (U + 8 - O) % 8
half U O o e = let even : (U + 8 - O) % 8 % 2 ≡ 0 = omega arith in omega (arith, even)

quarters : (A v U O r : ℕ) → A < 8 → O < 8 → U % 2 ≡ O % 2 → (A + O) % 8 ≡ (v + U + 4 * r) % 8
    → A ≡ (v + (2 * ((U + 8 - O) % 8 / 2) + 4 * r)) % 8
quarters A v U O r a o e h =
    let D : ℕ = (U + 8 - O) % 8 in
    let back : (D + O) % 8 ≡ U % 8 = omega arith in
    sym (mod-eq_of_lt a) ∙ cancel8 O O A (v + (D + 4 * r)) refl
    (carry (O + A) (A + O) 0 0 (omega arith) ∙ h ∙ carry (v + U + 4 * r) (U + (v + 4 * r)) 0 0 (omega arith)
    ∙ sym (add8 (D + O) U (v + 4 * r) (v + 4 * r) back refl) ∙ carry (D + O + (v + 4 * r)) (O + (v + (D + 4 * r))) 0 0 (omega arith))
    ∙ ap (λ x. (v + (x + 4 * r)) % 8) (sym (half U O o e))

more : (v q x t r : ℕ) → x < 2 → t < 2 → r < 2
    → ((v + (2 * q + 4 * r)) % 8 + 4 * ((x + t) % 2)) % 8 ≡ (v + (2 * ((q + 2 * t) % 4) + 4 * ((r + x) % 2))) % 8
more v q =
    digit₃ (λ x t r. ((v + (2 * q + 4 * r)) % 8 + 4 * ((x + t) % 2)) % 8 ≡ (v + (2 * ((q + 2 * t) % 4) + 4 * ((r + x) % 2))) % 8)
    (omega arith) (omega arith) (omega arith) (omega arith) (omega arith) (omega arith) (omega arith) (omega arith)

module _ (v : ℕ → ℕ) (P d u r : ℕ) (small : (c : ℕ) → v c < 8) (even : (c : ℕ) → v c % 2 ≡ v 0 % 2) (idle : Seen v P)
    (ue : u ≡ bit_and d P) (polar : (c : ℕ) → (v (bit_xor c u) + v 0) % 8 ≡ (v c + v u + 4 * dot r c) % 8) where
  -- the value at c ⊕ d, by the pivots alone
  alone : (c : ℕ) → v (bit_xor c d) ≡ (v c + (2 * ((v u + 8 - v 0) % 8 / 2) + 4 * dot (bit_and r P) c)) % 8
  alone c =
      let b = bit_and c P in
      let at : v (bit_xor c d) ≡ v (bit_xor b u) = idle (bit_xor c d) ∙ ap v (and-linear P c d ∙ ap (bit_xor b) (sym ue)) in
      quarters (v (bit_xor c d)) (v c) (v u) (v 0) (dot (bit_and r P) c) (small (bit_xor c d)) (small 0) (even u)
      (ap (λ x. (x + v 0) % 8) at ∙ polar b ∙ ap₂ (λ x y. (x + v u + 4 * y) % 8) (sym (idle c)) (dot-and r c P))

  -- and with a parity
  pub gained : (z U O t P' : ℕ) → U ≡ v u → O ≡ v 0 → t ≡ dot z d → P' ≡ P → (c : ℕ)
      → (v (bit_xor c d) + 4 * dot z (bit_xor c d)) % 8
      ≡ (v c + (2 * (((U + 8 - O) % 8 / 2 + 2 * t) % 4) + 4 * dot (bit_xor (bit_and r P') z) c)) % 8
  gained z U O t P' eU eO et eP c =
      let q : ℕ = (v u + 8 - v 0) % 8 / 2 in
      ap₂ (λ x y. (x + 4 * y) % 8) (alone c) (dot-xor-r z c d)
      ∙ more (v c) q (dot z c) (dot z d) (dot (bit_and r P) c) (dot-lt z c) (dot-lt z d) (dot-lt (bit_and r P) c)
      ∙ ap₂ (λ x y. (v c + (2 * ((x + 2 * y) % 4) + 4 * ((dot (bit_and r P) c + dot z c) % 2))) % 8)
      (ap₂ (λ x y. (x + 8 - y) % 8 / 2) (sym eU) (sym eO)) (sym et)
      ∙ ap (λ x. (v c + (2 * (((U + 8 - O) % 8 / 2 + 2 * t) % 4) + 4 * x)) % 8)
      (sym (dot-xor-l (bit_and r P) z c) ∙ ap (λ x. dot (bit_xor (bit_and r x) z) c) (sym eP))
