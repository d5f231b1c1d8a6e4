-- How long the strings of a space are, and the bound of their phases.
use Rattle.std.proofs.Common.{◌≡◌, ℕ, ◌%◌, ◌^◌, ◌<◌, Some, Option, sym, refl, ap, ◌∙◌, subst, mod-lt, arith, pow_pos}
use native.Mathlib.Decide.{dec_lt}
use lib.Bits.{bit_xor, xor_comm, xor_lt}
use Rattle.quadratic.specs.Bits.{bit}
use Rattle.quadratic.specs.Echelon.{row}
use Rattle.quadratic.specs.Phase.{phase}
use Rattle.quadratic.specs.Strings.{Member}
use Rattle.quadratic.specs.Value.{value_at}
use Rattle.quadratic.specs.declared.affine.AffineSpace.{AffineSpace}
use Rattle.quadratic.specs.declared.phased.PhasedSpace.{PhasedSpace}
use Rattle.quadratic.proofs.Bitlaws.{digit, bit-lt, bit-low, bit_past}
use Rattle.quadratic.proofs.Confine.{member-under}
use Rattle.quadratic.proofs.Dots.{by_bits}
use Rattle.quadratic.proofs.Laws.{facts, shift_in, lead-bit}
use Rattle.quadratic.proofs.Left.{left-row, left-none}
use Rattle.quadratic.proofs.Linear.{back}
use Rattle.quadratic.proofs.Lowest.{set_below}
use Rattle.quadratic.proofs.Phases.{phase-in}
use Rattle.quadratic.proofs.Same.{has-phase}
use Rattle.quadratic.proofs.Values.{value-lt}

-- a number whose set bits all stand below n
pub bits_below : (n x : ℕ) → ((i : ℕ) → bit x i ≡ 1 → i < n) → x < 2 ^ n
bits_below n x h = subst (λ k. k < 2 ^ n) (sym (by_bits x (x % 2 ^ n) same)) (mod-lt x (pow_pos n))
  where
    same : (i : ℕ) → bit x i ≡ bit (x % 2 ^ n) i
    same i =
        elim (dec_lt i n) [
          | yes l ↦ sym (bit-low n x i l)
          | no g ↦ digit (λ b. bit x i ≡ b → b ≡ 0) (λ z. refl) (λ o. absurd (g (h i o))) (bit x i) (bit-lt x i) refl
              ∙ sym (bit_past n (x % 2 ^ n) i (mod-lt x (pow_pos n)) (omega arith))
        ]

module _ (s : AffineSpace) (n : ℕ) where
  shift-below : ((y : ℕ) → Member s y → y < 2 ^ n) → s.shift < 2 ^ n
  shift-below all = all s.shift (shift_in s)

  -- each row leads from the shift to another string
  row_below : ((y : ℕ) → Member s y → y < 2 ^ n) → (p : ℕ) → row s.rows p < 2 ^ n
  row_below all p =
      let r = row s.rows p in
      let h = s.shift in
      let other = all (bit_xor h r) (left-none s r (left-row s p) h (shift_in s)) in
      subst (λ k. k < 2 ^ n) (ap (λ k. bit_xor k h) (xor_comm h r) ∙ back r h) (xor_lt n (bit_xor h r) h other (shift-below all))

  pivots-below : ((y : ℕ) → Member s y → y < 2 ^ n) → s.pivots < 2 ^ n
  pivots-below all =
      bits_below n s.pivots (λ p on. set_below n (row s.rows p) p (row_below all p)
      (lead-bit s.pivots (row s.rows) s.shift (facts s) p on))

-- ---- the same by phases

some : {a b : ℕ} → ◌≡◌ {A = Option ℕ} (Some a) (Some b) → a ≡ b
some e = cc

-- a phase is below 8
pub phase-lt : (s : PhasedSpace) (y m : ℕ) → phase s y ≡ Some m → m < 8
phase-lt s y m e = subst (λ k. k < 8) (some (sym (phase-in s y (has-phase s y m e)) ∙ e)) (value-lt s.form y)

-- the shift has a phase
pub shift-phase : (s : PhasedSpace) → phase s s.space.shift ≡ Some (value_at s.form s.space.shift)
shift-phase s = phase-in s s.space.shift (shift_in s.space)

module _ (s : PhasedSpace) (n : ℕ) where
  pub phases-below : s.space.pivots < 2 ^ n → s.space.shift < 2 ^ n → (y m : ℕ) → phase s y ≡ Some m → y < 2 ^ n
  phases-below P h y m e = member-under s.space n y (P, h) (has-phase s y m e)

  pub space-below : ((y m : ℕ) → phase s y ≡ Some m → y < 2 ^ n) → (s.space.pivots < 2 ^ n) × (s.space.shift < 2 ^ n)
  space-below all =
      let short = λ (y : ℕ) (m : Member s.space y). all y (value_at s.form y) (phase-in s y m) in
      (pivots-below s.space n short, shift-below s.space n short)
