-- One variable turned over, and one variable cleared.
use Rattle.std.proofs.Common.{◌≡◌, ℕ, zero, suc, ◌+◌, ◌*◌, ◌/◌, ◌%◌, ◌^◌, ◌<◌, ◌≢◌, List, [], ◌∷◌, get_or, set, sym, refl, ap, ◌∙◌, ap₂, add-zero, mod-eq_of_lt, mul-zero, mul-one, arith, get_or-set_other, pow_pos}
use native.Mathlib.Decide.{ℕ_discrete}
use native.Mathlib.Nat.{mod-mod}
use lib.Bits.{bit_and, bit_xor, xor_lt, and_le_l}
use lib.Count.{ones}
use Rattle.quadratic.specs.Bits.{bit, dot, RowsXor}
use Rattle.quadratic.specs.Quadratic.{quad, coef, link}
use Rattle.quadratic.specs.Value.{value_at}
use Rattle.quadratic.specs.declared.form.QuadraticForm.{QuadraticForm}
use Rattle.quadratic.proofs.Bitlaws.{bit-lt, bit-xor, bit-and, bit-zero, bit-pow, bit-pow-other}
use Rattle.quadratic.proofs.Dots.{dot-pow}
use Rattle.quadratic.proofs.Algebra.{add8, carry, cancel8, quad-one, quad-off}
use Rattle.quadratic.proofs.Rows.{value-polar, link-xor, inside-xor}

last : (X Y P D d : ℕ) → (X + P) % 8 ≡ (Y + (P + D) + 4 * d) % 8 → X % 8 ≡ (Y % 8 + (D + 4 * d)) % 8
last X Y P D d h =
    cancel8 P P X (Y + (D + 4 * d)) refl
    (carry (P + X) (X + P) 0 0 (omega arith) ∙ h ∙ carry (Y + (P + D) + 4 * d) (P + (Y + (D + 4 * d))) 0 0 (omega arith))
    ∙ add8 Y (Y % 8) (D + 4 * d) (D + 4 * d) (sym (mod-mod Y 8)) refl

module _ (dim phase odd neg : ℕ) (t : List ℕ) (inside : (k : ℕ) → get_or t k 0 < 2 ^ dim) (sq : (k b : ℕ) → link t k b ≡ link t b k)
    (own : (k : ℕ) → link t k k ≡ bit odd k) where
  value-bit : (a c : ℕ) → a < dim
      → quad phase (coef odd neg) (link t) (bit (bit_xor c (2 ^ a))) dim % 8
      ≡ (quad phase (coef odd neg) (link t) (bit c) dim % 8 + (coef odd neg a + 4 * dot (get_or t a 0) c)) % 8
  value-bit a c l =
      let v = value-polar dim phase odd neg t (2 ^ a) (get_or t a 0) c inside sq own (inside a)
      (λ k i. sq a k ∙ sym (dot-pow (get_or t k 0) a)) in
      let one = quad-one phase (coef odd neg) (link t) (bit (2 ^ a)) a dim l (bit-pow a) (bit-pow-other a) in
      last (quad phase (coef odd neg) (link t) (bit (bit_xor c (2 ^ a))) dim) (quad phase (coef odd neg) (link t) (bit c) dim) phase
      (coef odd neg a) (dot (get_or t a 0) c)
      (v ∙ ap (λ z. (quad phase (coef odd neg) (link t) (bit c) dim + z + 4 * dot (get_or t a 0) c) % 8) one)

-- ---- a mask without one of its bits

none : (c : ℕ) → dot 0 c ≡ 0
unfolding dot ones
none c = refl

module _ (x here a : ℕ) (e : here ≡ 2 ^ a) where
  pub keep : (k : ℕ) → k ≢ a → bit (bit_xor x (bit_and x here)) k ≡ bit x k
  keep k ne =
      bit-xor x (bit_and x here) k ∙ ap (λ y. (bit x k + y) % 2)
      (bit-and x here k ∙ ap (λ b. bit x k * b) (ap (λ h. bit h k) e ∙ bit-pow-other a k ne))
      ∙ simp (mul-zero, add-zero) (mod-eq_of_lt (bit-lt x k))

  pub gone : bit (bit_xor x (bit_and x here)) a ≡ 0
  gone =
      bit-xor x (bit_and x here) a ∙ ap (λ y. (bit x a + y) % 2)
      (bit-and x here a ∙ ap (λ b. bit x a * b) (ap (λ h. bit h a) e ∙ bit-pow a) ∙ mul-one (bit x a)) ∙ omega arith

  pub mask_below : (n : ℕ) → x < 2 ^ n → bit_xor x (bit_and x here) < 2 ^ n
  mask_below n l = xor_lt n x (bit_and x here) l (let h = and_le_l x here in omega arith)

set-zero : (t : List ℕ) (a : ℕ) → get_or (set t a 0) a 0 ≡ 0
set-zero [] a = refl
set-zero (x ∷ xs) zero = refl
set-zero (x ∷ xs) (suc a) = set-zero xs a

-- ---- a table without one of its variables

module _ (t t₁ : List ℕ) (here a : ℕ) (e : here ≡ 2 ^ a) (x : RowsXor t t₁ (get_or t a 0) here)
    (sq : (k b : ℕ) → link t k b ≡ link t b k) where
  link_row : (b : ℕ) → link (set t₁ a 0) a b ≡ 0
  link_row b = ap (λ r. bit r b) (set-zero t₁ a) ∙ bit-zero b

  other : (k b : ℕ) → k ≢ a → link (set t₁ a 0) k b ≡ (link t k b + link t k a * bit (2 ^ a) b) % 2
  other k b ne =
      ap (λ r. bit r b) (get_or-set_other t₁ a k 0 0 ne) ∙ link-xor t t₁ (get_or t a 0) here x k b
      ∙ ap₂ (λ p q. (link t k b + p * q) % 2) (sq a k) (ap (λ h. bit h b) e)

  link-keep : (k b : ℕ) → k ≢ a → b ≢ a → link (set t₁ a 0) k b ≡ link t k b
  link-keep k b p q =
      other k b p ∙ ap (λ z. (link t k b + link t k a * z) % 2) (bit-pow-other a b q)
      ∙ simp (mul-zero, add-zero) (mod-eq_of_lt (bit-lt (get_or t k 0) b))

  link-column : (k : ℕ) → link (set t₁ a 0) k a ≡ 0
  link-column k =
      elim (ℕ_discrete k a) [
        | yes i ↦ ap (λ j. link (set t₁ a 0) j a) i ∙ link_row a
        | no ne ↦ other k a ne ∙ ap (λ z. (link t k a + link t k a * z) % 2) (bit-pow a) ∙ simp mul-one (omega arith)
      ]

  pub square-clear : (k b : ℕ) → link (set t₁ a 0) k b ≡ link (set t₁ a 0) b k
  square-clear k b =
      elim (ℕ_discrete k a) [
        | yes i ↦ ap (λ j. link (set t₁ a 0) j b) i ∙ link_row b ∙ sym (link-column b) ∙ ap (λ j. link (set t₁ a 0) b j) (sym i)
        | no p ↦ elim (ℕ_discrete b a) [
          | yes i ↦ ap (λ j. link (set t₁ a 0) k j) i ∙ link-column k ∙ sym (link_row k) ∙ ap (λ j. link (set t₁ a 0) j k) (sym i)
          | no q ↦ link-keep k b p q ∙ sq k b ∙ sym (link-keep b k q p)
        ]
      ]

  pub inside-clear : (n : ℕ) → here < 2 ^ n → ((k : ℕ) → get_or t k 0 < 2 ^ n) → (k : ℕ) → get_or (set t₁ a 0) k 0 < 2 ^ n
  inside-clear n h l k =
      elim (ℕ_discrete k a) [
        | yes i ↦ rw (i, set-zero t₁ a) (pow_pos n)
        | no ne ↦ rw (get_or-set_other t₁ a k 0 0 ne) (inside-xor t t₁ (get_or t a 0) here x n h l k)
      ]

  pub own-clear : (odd : ℕ) → ((k : ℕ) → link t k k ≡ bit odd k) → (k : ℕ) → link (set t₁ a 0) k k ≡ bit (bit_xor odd (bit_and odd here)) k
  own-clear odd own k =
      elim (ℕ_discrete k a) [
        | yes i ↦ ap (λ j. link (set t₁ a 0) j j) i ∙ link_row a ∙ sym (gone odd here a e)
            ∙ ap (λ j. bit (bit_xor odd (bit_and odd here)) j) (sym i)
        | no p ↦ link-keep k k p p ∙ own k ∙ sym (keep odd here a e k p)
      ]

  pub value-off : (dim phase odd neg c : ℕ) → bit c a ≡ 0
      → quad phase (coef (bit_xor odd (bit_and odd here)) (bit_xor neg (bit_and neg here))) (link (set t₁ a 0)) (bit c) dim
      ≡ quad phase (coef odd neg) (link t) (bit c) dim
  value-off dim phase odd neg c z =
      quad-off phase (coef odd neg) (coef (bit_xor odd (bit_and odd here)) (bit_xor neg (bit_and neg here))) (link t)
      (link (set t₁ a 0)) (bit c) dim (bit-lt c)
      (λ k on. ap₂ (λ o n. 2 * o + 4 * n) (keep odd here a e k (away k on)) (keep neg here a e k (away k on)))
      (λ k b p q. link-keep k b (away k p) (away b q))
    where
      away : (k : ℕ) → bit c k ≡ 1 → k ≢ a
      away k on i = let h = ap (bit c) i in omega (arith, h, on, z)

  pub value-free : (dim phase odd neg c : ℕ) → here < 2 ^ dim → ((k : ℕ) → get_or t k 0 < 2 ^ dim)
      → ((k : ℕ) → link t k k ≡ bit odd k) → a < dim
      → quad phase (coef (bit_xor odd (bit_and odd here)) (bit_xor neg (bit_and neg here))) (link (set t₁ a 0)) (bit (bit_xor c (2 ^ a))) dim % 8
      ≡ quad phase (coef (bit_xor odd (bit_and odd here)) (bit_xor neg (bit_and neg here))) (link (set t₁ a 0)) (bit c) dim % 8
  value-free dim phase odd neg c h inside own l =
      let o = bit_xor odd (bit_and odd here) in
      let n = bit_xor neg (bit_and neg here) in
      let v = value-bit dim phase o n (set t₁ a 0) (inside-clear dim h inside) square-clear (own-clear odd own) a c l in
      let z : dot (get_or (set t₁ a 0) a 0) c ≡ 0 = ap (λ r. dot r c) (set-zero t₁ a) ∙ none c in
      let q = quad phase (coef o n) (link (set t₁ a 0)) (bit c) dim in
      v ∙ ap₂ (λ d s. (q % 8 + (d + 4 * s)) % 8) (ap₂ (λ x y. 2 * x + 4 * y) (gone odd here a e) (gone neg here a e)) z
      ∙ simp add-zero (mod-mod q 8)

-- what the value gains where variable a is turned over
pub slope-at : (f : QuadraticForm) (a c : ℕ) → a < 48
    → value_at f (bit_xor c (2 ^ a)) ≡ (value_at f c + (coef f.odd f.neg a + 4 * dot (get_or f.coupling a 0) c)) % 8
unfolding value_at
slope-at f a c l = value-bit 48 f.phase f.odd f.neg f.coupling f.inside f.square f.own a c l

-- a linear coefficient is even
pub twice-half : (odd neg a d : ℕ) → d ≡ coef odd neg a → 2 * (d / 2) ≡ d
twice-half odd neg a d e = omega (arith, e)
