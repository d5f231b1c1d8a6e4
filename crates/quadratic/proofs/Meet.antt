-- The strings of two spaces with the difference of their phases.
use Rattle.std.proofs.Common.{◌≡◌, ℕ, ◌+◌, ◌-◌, ◌*◌, ◌%◌, ◌^◌, ◌<◌, Some, None, Option, sym, refl, ap, ◌∙◌, ap₂, lt_of_le_of_lt, arith}
use native.Mathlib.Decide.{ℕ_discrete}
use lib.Bits.{bit_and, bit_or, bit_xor, or_lt, xor_lt, xor_self, and_le_l}
use Rattle.quadratic.specs.Bits.{bit}
use Rattle.quadratic.specs.Echelon.{row, reduced}
use Rattle.quadratic.specs.Phase.{phase, less}
use Rattle.quadratic.specs.Strings.{Member, Both}
use Rattle.quadratic.specs.Value.{value_at}
use Rattle.quadratic.specs.declared.phased.PhasedSpace.{PhasedSpace}
use Rattle.quadratic.proofs.Bitlaws.{digit₃, bit-lt, bit-and, bit-or}
use Rattle.quadratic.proofs.Dots.{by_bits}
use Rattle.quadratic.proofs.Laws.{holds, member, and-twice}
use Rattle.quadratic.proofs.Linear.{and-linear, bit-linear}
use Rattle.quadratic.proofs.Phases.{phase-in, phase-out}
use Rattle.quadratic.proofs.Sight.{Seen}

-- the variables of two forms that are no pivots of the space in which they meet
module _ (P S T : ℕ) where
  abbrev pub gone : ℕ
  gone = bit_xor (bit_or S T) (bit_and (bit_or S T) P)

  pub gone-below : S < 2 ^ 48 → T < 2 ^ 48 → gone < 2 ^ 48
  gone-below hs ht =
      let all = or_lt 48 S T hs ht in
      xor_lt 48 (bit_or S T) (bit_and (bit_or S T) P) all (lt_of_le_of_lt (and_le_l (bit_or S T) P) all)

  pub gone-apart : bit_and gone P ≡ 0
  gone-apart = and-linear P (bit_or S T) (bit_and (bit_or S T) P) ∙ ap (bit_xor (bit_and (bit_or S T) P)) (and-twice (bit_or S T) P)
      ∙ xor_self (bit_and (bit_or S T) P)

  -- the bits of the pivots and of what is gone, together
  abbrev either : ℕ → ℕ
  either k = (bit S k + bit T k + bit S k * bit T k) % 2

  together : (k : ℕ) → bit (bit_xor P gone) k ≡ bit_xor (bit P k) (bit_xor (either k) (either k * bit P k))
  together k =
      bit-linear k P gone
      ∙ ap (bit_xor (bit P k)) (bit-linear k (bit_or S T) (bit_and (bit_or S T) P)
      ∙ ap₂ bit_xor (bit-or S T k) (bit-and (bit_or S T) P k ∙ ap (λ b. b * bit P k) (bit-or S T k)))

  pub first-shown : bit_and (bit_xor P gone) S ≡ S
  first-shown =
      by_bits (bit_and (bit_xor P gone) S) S (λ k. bit-and (bit_xor P gone) S k ∙ ap (λ b. b * bit S k) (together k)
      ∙ digit₃ (λ p q r. bit_xor p (bit_xor ((q + r + q * r) % 2) (((q + r + q * r) % 2) * p)) * q ≡ q) refl refl
      refl refl refl refl refl refl
      (bit P k) (bit S k) (bit T k) (bit-lt P k) (bit-lt S k) (bit-lt T k))

  pub second-shown : bit_and (bit_xor P gone) T ≡ T
  second-shown =
      by_bits (bit_and (bit_xor P gone) T) T (λ k. bit-and (bit_xor P gone) T k ∙ ap (λ b. b * bit T k) (together k)
      ∙ digit₃ (λ p q r. bit_xor p (bit_xor ((q + r + q * r) % 2) (((q + r + q * r) % 2) * p)) * r ≡ r) refl refl
      refl refl refl refl refl refl
      (bit P k) (bit S k) (bit T k) (bit-lt P k) (bit-lt S k) (bit-lt T k))

-- a difference modulo 8
pub difference : (r s t : ℕ) → r < 8 → t < 8 → (r + t) % 8 ≡ s → r ≡ (s + (8 - t)) % 8
difference r s t hr ht e = omega arith

pub seen_difference : (r s t : ℕ → ℕ) (M : ℕ) → ((c : ℕ) → r c < 8) → ((c : ℕ) → t c < 8) → ((c : ℕ) → (r c + t c) % 8 ≡ s c)
    → Seen s M → Seen t M → Seen r M
seen_difference r s t M hr ht e hs hk c =
    difference (r c) (s c) (t c) (hr c) (ht c) (e c) ∙ ap₂ (λ x y. (x + (8 - y)) % 8) (hs c) (hk c)
    ∙ sym (difference (r (bit_and c M)) (s (bit_and c M)) (t (bit_and c M)) (hr (bit_and c M)) (ht (bit_and c M)) (e (bit_and c M)))

less_none : (a : Option ℕ) → less a None ≡ None
less_none (Some x) = refl
less_none None = refl

-- no string is in both spaces
pub none-phase : (s t : PhasedSpace) (y : ℕ) → (Member s.space y → Member t.space y → ⊥) → None ≡ less (phase s y) (phase t y)
none-phase s t y h =
    elim (ℕ_discrete (reduced s.space.pivots (row s.space.rows) y) s.space.shift) [
      | yes e ↦ sym (ap (less (phase s y)) (phase-out t y (h (member s.space y e))) ∙ less_none (phase s y))
      | no ne ↦ sym (ap (λ a. less a (phase t y)) (phase-out s y (λ m. ne (holds s.space y m))))
    ]

-- the phases where two spaces meet
pub meet-phase : (m s t : PhasedSpace) → Both s.space m.space t.space
    → ((y : ℕ) → Member m.space y → value_at m.form y ≡ (value_at s.form y + (8 - value_at t.form y)) % 8)
    → (y : ℕ) → phase m y ≡ less (phase s y) (phase t y)
meet-phase m s t b v y =
    elim (ℕ_discrete (reduced m.space.pivots (row m.space.rows) y) m.space.shift) [
      | yes e ↦
          let i = member m.space y e in
          phase-in m y i ∙ ap (λ x. Some x) (v y i) ∙ sym (ap₂ less (phase-in s y (b.first y i)) (phase-in t y (b.second y i)))
      | no ne ↦ phase-out m y (λ i. ne (holds m.space y i)) ∙ none-phase s t y (λ i j. ne (holds m.space y (b.all y i j)))
    ]
