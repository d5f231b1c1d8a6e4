-- What is left of a string without its bits at the pivots of a space.
use Rattle.std.proofs.Common.{◌≡◌, ℕ, ◌^◌, ◌<◌, sym, ap, ◌∙◌, ap₂}
use lib.Bits.{bit_and, bit_xor, xor_zero_r, xor_lt}
use Rattle.quadratic.specs.Echelon.{row, reduced, combination}
use Rattle.quadratic.specs.Strings.{Member}
use Rattle.quadratic.specs.declared.affine.AffineSpace.{AffineSpace}
use Rattle.quadratic.proofs.Confine.{comb-lt}
use Rattle.quadratic.proofs.Distinct.{nothing}
use Rattle.quadratic.proofs.Laws.{facts, holds, member, masked, comb-pow, red-linear, red-comb, red-keep, red-clean}

module _ (s : AffineSpace) where
  abbrev pub left : ℕ → ℕ
  left = reduced s.pivots (row s.rows)

  pub left_lt : (d : ℕ) → d < 2 ^ 48 → left d < 2 ^ 48
  left_lt d l = xor_lt 48 d (combination (row s.rows) (bit_and d s.pivots)) l (comb-lt s d)

  pub left-xor : (x y : ℕ) → left (bit_xor x y) ≡ bit_xor (left x) (left y)
  left-xor = red-linear s.pivots (row s.rows) s.shift (facts s)

  -- nothing is left of a row
  pub left-row : (p : ℕ) → left (row s.rows p) ≡ 0
  left-row p =
      let P = s.pivots in
      let R = row s.rows in
      ap left (sym (comb-pow P R s.shift (facts s) p))
      ∙ red-comb P R s.shift (facts s) (bit_and (2 ^ p) P) (masked P R s.shift (facts s) (2 ^ p))

  -- nor of what leads from one string of the space to another
  pub left-zero : (d y : ℕ) → Member s y → Member s (bit_xor y d) → left d ≡ 0
  left-zero d y m n =
      nothing s.shift (left d) (ap (λ x. bit_xor x (left d)) (sym (holds s y m)) ∙ sym (left-xor y d) ∙ holds s (bit_xor y d) n)

  pub left-none : (d : ℕ) → left d ≡ 0 → (y : ℕ) → Member s y → Member s (bit_xor y d)
  left-none d e y m = member s (bit_xor y d) (left-xor y d ∙ ap₂ bit_xor (holds s y m) e ∙ xor_zero_r s.shift)

  -- d leads where what is left of it leads
  pub left-same : (d y : ℕ) → left (bit_xor y (left d)) ≡ left (bit_xor y d)
  left-same d y =
      left-xor y (left d) ∙ ap (bit_xor (left y)) (red-keep s.pivots (row s.rows) s.shift (facts s) (left d)
      (red-clean s.pivots (row s.rows) s.shift (facts s) d)) ∙ sym (left-xor y d)
