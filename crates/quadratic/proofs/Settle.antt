-- The bits of a space's strings off the pivots, and a form that no longer looks at one of them.
use Rattle.std.proofs.Common.{◌≡◌, ℕ, ◌*◌, ◌^◌, ◌<◌, ◌≢◌, sym, ap, ◌∙◌, ap₂, mul-zero, zero-mul, mul-one}
use native.Mathlib.Decide.{ℕ_discrete}
use lib.Bits.{bit_and, bit_xor, and_comm, and_self, xor_assoc, xor_comm, xor_self, xor_zero_l, xor_zero_r, xor_lt}
use Rattle.quadratic.specs.Bits.{bit, dot}
use Rattle.quadratic.specs.Echelon.{row, reduced}
use Rattle.quadratic.specs.Strings.{Member}
use Rattle.quadratic.specs.declared.affine.AffineSpace.{AffineSpace}
use Rattle.quadratic.proofs.Bitlaws.{digit, bit-lt, bit-and, bit-zero, bit-pow, bit-pow-other}
use Rattle.quadratic.proofs.Dots.{by_bits, and_assoc, and_xor, dot-lt, dot-pow, dot-comm}
use Rattle.quadratic.proofs.Laws.{facts, holds, resp-inside, resp-reduced, part-dot, off-bit, and_pow}
use Rattle.quadratic.proofs.Linear.{bit-linear, and-linear, dot-linear, linear-pick}
use Rattle.quadratic.proofs.Sight.{Seen}

pow-dot : (x i : ℕ) → dot (2 ^ i) x ≡ bit x i
pow-dot x i = dot-comm (2 ^ i) x ∙ dot-pow x i

-- a column of the rows, at a position that is no pivot
module _ (s : AffineSpace) (i col : ℕ) (is : (p : ℕ) → bit col p ≡ bit (row s.rows p) i) where
  by-dot : (p : ℕ) → bit col p ≡ dot (2 ^ i) (row s.rows p)
  by-dot p = is p ∙ sym (pow-dot (row s.rows p) i)

  pub column-inside : bit_and col s.pivots ≡ col
  column-inside = resp-inside s.pivots (row s.rows) s.shift (facts s) (2 ^ i) col by-dot

  pub column-off : bit s.pivots i ≡ 0 → bit col i ≡ 0
  column-off z = is i ∙ ap (λ r. bit r i) (s.idle i z) ∙ bit-zero i

  -- the bit that is left at the position
  left-bit : (y : ℕ) → bit (reduced s.pivots (row s.rows) y) i ≡ bit_xor (bit y i) (dot col y)
  left-bit y =
      sym (pow-dot (reduced s.pivots (row s.rows) y) i)
      ∙ resp-reduced s.pivots (row s.rows) s.shift (facts s) (2 ^ i) col by-dot y
      ∙ ap (λ x. bit_xor x (dot col y)) (pow-dot y i)

  -- and the parity that tells it
  pub check-is : (w : ℕ) → w ≡ bit_xor col (2 ^ i) → (y : ℕ) → dot w y ≡ bit (reduced s.pivots (row s.rows) y) i
  check-is w e y =
      ap (λ x. dot x y) e ∙ dot-comm (bit_xor col (2 ^ i)) y ∙ dot-linear y col (2 ^ i) ∙ ap₂ bit_xor (dot-comm y col) (dot-pow y i)
      ∙ xor_comm (dot col y) (bit y i) ∙ sym (left-bit y)

  -- a string of the space has there what its pivots say
  pub own-bit : (y : ℕ) → Member s y → bit_xor (bit y i) (bit_xor (dot col y) (bit s.shift i)) ≡ 0
  own-bit y m =
      sym (xor_assoc (bit y i) (dot col y) (bit s.shift i))
      ∙ ap (λ x. bit_xor x (bit s.shift i)) (sym (left-bit y) ∙ ap (λ x. bit x i) (holds s y m))
      ∙ xor_self (bit s.shift i)

-- variable i replaced by a parity of pivots and a constant
module _ (v v' : ℕ → ℕ) (P left i col β : ℕ) (law : (c : ℕ) → v' c ≡ v (bit_xor c (bit_xor (bit c i) (bit_xor (dot col c) β) * 2 ^ i)))
    (small : β < 2) (apart : bit_and left P ≡ 0) (on : bit left i ≡ 1) (part : bit_and col P ≡ col) where
  M : ℕ
  M = bit_xor P left

  M' : ℕ
  M' = bit_xor P (bit_xor left (2 ^ i))

  put : ℕ → ℕ
  put c = bit_xor c (bit_xor (bit c i) (bit_xor (dot col c) β) * 2 ^ i)

  off : bit P i ≡ 0
  off = off-bit P left i (and_comm P left ∙ apart) on

  M'-other : (k : ℕ) → k ≢ i → bit M' k ≡ bit M k
  unfolding M M'
  M'-other k ne =
      bit-linear k P (bit_xor left (2 ^ i))
      ∙ ap (bit_xor (bit P k)) (bit-linear k left (2 ^ i) ∙ ap (bit_xor (bit left k)) (bit-pow-other i k ne) ∙ xor_zero_r (bit left k))
      ∙ sym (bit-linear k P left)

  -- the pivots are among the variables that stay
  P-M' : bit_and P M' ≡ P
  unfolding M'
  P-M' =
      and_xor P P (bit_xor left (2 ^ i))
      ∙ ap₂ bit_xor (and_self P) (and_xor P left (2 ^ i)
      ∙ ap₂ bit_xor (and_comm P left ∙ apart) (and_comm P (2 ^ i) ∙ and_pow i P ∙ ap (λ b. b * 2 ^ i) off ∙ zero-mul (2 ^ i)))
      ∙ xor_zero_r P

  same-dot : (c : ℕ) → dot col (bit_and c M') ≡ dot col c
  same-dot c = part-dot col M' c (ap (λ x. bit_and x M') (sym part) ∙ and_assoc col P M' ∙ ap (bit_and col) P-M' ∙ part)

  -- the bits of a string with variable i replaced
  put-at : (c : ℕ) → bit (put c) i ≡ bit_xor (dot col c) β
  unfolding put
  put-at c =
      let x = bit_xor (bit c i) (bit_xor (dot col c) β) in
      let lx : x < 2 = xor_lt 1 (bit c i) (bit_xor (dot col c) β) (bit-lt c i) (xor_lt 1 (dot col c) β (dot-lt col c) small) in
      bit-linear i c (x * 2 ^ i) ∙ ap (bit_xor (bit c i))
      (linear-pick (λ y. bit y i) (bit-linear i) x (2 ^ i) lx ∙ ap (λ b. x * b) (bit-pow i) ∙ mul-one x)
      ∙ sym (xor_assoc (bit c i) (bit c i) (bit_xor (dot col c) β)) ∙ ap (λ b. bit_xor b (bit_xor (dot col c) β)) (xor_self (bit c i))
      ∙ xor_zero_l (bit_xor (dot col c) β)

  put_other : (c k : ℕ) → k ≢ i → bit (put c) k ≡ bit c k
  unfolding put
  put_other c k ne =
      let x = bit_xor (bit c i) (bit_xor (dot col c) β) in
      let lx : x < 2 = xor_lt 1 (bit c i) (bit_xor (dot col c) β) (bit-lt c i) (xor_lt 1 (dot col c) β (dot-lt col c) small) in
      bit-linear k c (x * 2 ^ i) ∙ ap (bit_xor (bit c k))
      (linear-pick (λ y. bit y k) (bit-linear k) x (2 ^ i) lx ∙ ap (λ b. x * b) (bit-pow-other i k ne) ∙ mul-zero x)
      ∙ xor_zero_r (bit c k)

  put_same : (c : ℕ) → bit_and (put c) M ≡ bit_and (put (bit_and c M')) M
  put_same c =
      by_bits (bit_and (put c) M) (bit_and (put (bit_and c M')) M)
      (λ k. bit-and (put c) M k ∙ one k ∙ sym (bit-and (put (bit_and c M')) M k))
    where
      square : (b x : ℕ) → b < 2 → x * b ≡ x * b * b
      square b x = digit (λ b. x * b ≡ x * b * b) (simp mul-zero) (simp mul-one) b

      one : (k : ℕ) → bit (put c) k * bit M k ≡ bit (put (bit_and c M')) k * bit M k
      one k =
          elim (ℕ_discrete k i) [
            | yes e ↦
                ap (λ j. bit (put c) j * bit M k) e
                ∙ ap (λ b. b * bit M k) (put-at c ∙ ap (λ d. bit_xor d β) (sym (same-dot c)) ∙ sym (put-at (bit_and c M')))
                ∙ ap (λ j. bit (put (bit_and c M')) j * bit M k) (sym e)
            | no ne ↦
                ap (λ b. b * bit M k) (put_other c k ne) ∙ square (bit M k) (bit c k) (bit-lt M k)
                ∙ ap (λ b. bit c k * b * bit M k) (sym (M'-other k ne))
                ∙ ap (λ b. b * bit M k) (sym (bit-and c M' k) ∙ sym (put_other (bit_and c M') k ne))
          ]

  -- the new values no longer depend on variable i
  pub unseen : Seen v (bit_xor P left) → Seen v' (bit_xor P (bit_xor left (2 ^ i)))
  unfolding M M' put
  unseen h c = law c ∙ h (put c) ∙ ap v (put_same c) ∙ sym (h (put (bit_and c M'))) ∙ sym (law (bit_and c M'))

-- a mask apart from the pivots stays so when one of its bits goes
pub still-apart : (P left i : ℕ) → bit_and left P ≡ 0 → bit left i ≡ 1 → bit_and (bit_xor left (2 ^ i)) P ≡ 0
still-apart P left i apart on =
    and-linear P left (2 ^ i)
    ∙ ap₂ bit_xor apart (and_pow i P ∙ ap (λ b. b * 2 ^ i) (off-bit P left i (and_comm P left ∙ apart) on) ∙ zero-mul (2 ^ i))
