-- From masks and tables to the functions of Algebra.
use Rattle.std.proofs.Common.{◌≡◌, ℕ, ◌+◌, ◌*◌, ◌/◌, ◌%◌, ◌^◌, ◌<◌, List, get_or, sym, refl, ap, ◌∙◌, ap₂, add-zero, mul_assoc, mul_comm, add-mul, one-mul, zero-mul, arith, pow_pos}
use native.Mathlib.Nat.{mul-add-mod_self_left, mod-mod}
use lib.Bits.{bit_and, bit_xor, xor_lt}
use Rattle.quadratic.specs.Bits.{bit, dot, inner, RowsXor}
use Rattle.quadratic.specs.Quadratic.{quad, coef, link}
use Rattle.quadratic.proofs.Bitlaws.{digit, digit₂, digit₃, bit-lt, bit-xor, bit-and, bit-zero, dot-inner}
use Rattle.quadratic.proofs.Algebra.{turn_two, turn-four, add-parity, add-product, add8, four, shift, shift-bit, polar, cross}
use Rattle.quadratic.proofs.Algebra.{cross-rows, sum-parity}

-- ---- one mask

coef-four : (odd neg mask k : ℕ) → coef odd (bit_xor neg mask) k % 8 ≡ (coef odd neg k + 4 * bit mask k) % 8
coef-four odd neg mask k =
    rw bit-xor (digit₂ (λ n m. (2 * bit odd k + 4 * ((n + m) % 2)) % 8 ≡ (2 * bit odd k + 4 * n + 4 * m) % 8)
    (omega arith) (omega arith) (omega arith) (omega arith)
    (bit neg k) (bit mask k) (bit-lt neg k) (bit-lt mask k))

coef-two : (odd neg mask k : ℕ) → coef (bit_xor odd mask) (bit_xor neg (bit_and mask odd)) k % 8 ≡ (coef odd neg k + 2 * bit mask k) % 8
coef-two odd neg mask k =
    ap₂ (λ o n. (2 * o + 4 * n) % 8) (bit-xor odd mask k)
    (bit-xor neg (bit_and mask odd) k ∙ ap (λ a. (bit neg k + a) % 2) (bit-and mask odd k))
    ∙ digit₃ (λ o n m. (2 * ((o + m) % 2) + 4 * ((n + m * o) % 2)) % 8 ≡ (2 * o + 4 * n + 2 * m) % 8) refl refl
    refl refl refl refl refl refl
    (bit odd k) (bit neg k) (bit mask k) (bit-lt odd k) (bit-lt neg k) (bit-lt mask k)

-- ---- rows

pub pick-lt : (n b mask : ℕ) → b < 2 → mask < 2 ^ n → b * mask < 2 ^ n
pick-lt n b mask l h = let p = pow_pos n in digit (λ b. b * mask < 2 ^ n) (omega arith) (omega arith) b l

bit-pick : (b mask i : ℕ) → b < 2 → bit (b * mask) i ≡ b * bit mask i
bit-pick b mask i =
    digit (λ b. bit (b * mask) i ≡ b * bit mask i) (ap (λ x. bit x i) (zero-mul mask) ∙ bit-zero i ∙ sym (zero-mul (bit mask i)))
    (ap (λ x. bit x i) (one-mul mask) ∙ sym (one-mul (bit mask i))) b

module _ (t t' : List ℕ) (rows mask : ℕ) (x : RowsXor t t' rows mask) where
  pub link-xor : (a b : ℕ) → link t' a b ≡ (link t a b + bit rows a * bit mask b) % 2
  link-xor a b =
      ap (λ r. bit r b) (x a) ∙ bit-xor (get_or t a 0) (bit rows a * mask) b
      ∙ ap (λ y. (link t a b + y) % 2) (bit-pick (bit rows a) mask b (bit-lt rows a))

  pub inside-xor : (n : ℕ) → mask < 2 ^ n → ((a : ℕ) → get_or t a 0 < 2 ^ n) → (a : ℕ) → get_or t' a 0 < 2 ^ n
  inside-xor n h l a = rw (x a) (xor_lt n (get_or t a 0) (bit rows a * mask) (l a) (pick-lt n (bit rows a) mask (bit-lt rows a) h))

-- ---- parities

module _ (dim phase odd neg : ℕ) (t : List ℕ) (mask c : ℕ) (h : mask < 2 ^ dim) where
  pub value-four : quad phase (coef odd (bit_xor neg mask)) (link t) (bit c) dim % 8
      ≡ (quad phase (coef odd neg) (link t) (bit c) dim % 8 + 4 * dot mask c) % 8
  value-four =
      let e = dot-inner dim mask c h in
      let v = add-parity phase (coef odd neg) (coef odd (bit_xor neg mask)) (link t) (link t) (bit c)
      (bit-lt c) 4 0 turn-four (bit mask) (bit-lt mask)
      (λ k. rw zero-mul (omega arith)) dim (λ k i. coef-four odd neg mask k) (λ k b i. simp (zero-mul, add-zero)) in
      rw e (omega (arith, v))

  pub value-two : (t' : List ℕ) → RowsXor t t' mask mask
      → quad phase (coef (bit_xor odd mask) (bit_xor neg (bit_and mask odd))) (link t') (bit c) dim % 8
      ≡ (quad phase (coef odd neg) (link t) (bit c) dim % 8 + 2 * dot mask c) % 8
  value-two t' x =
      let e = dot-inner dim mask c h in
      let v = add-parity phase (coef odd neg) (coef (bit_xor odd mask) (bit_xor neg (bit_and mask odd))) (link t)
      (link t') (bit c) (bit-lt c) 2 1 turn_two (bit mask) (bit-lt mask)
      (λ k. rw one-mul (bit-lt mask k)) dim (λ k i. coef-two odd neg mask k)
      (λ k b i. rw one-mul (omega (arith, link-xor t t' mask mask x k b))) in
      rw e (omega (arith, v))

  own-digit : (x y : ℕ) → x < 2 → y < 2 → (x + y * y) % 2 ≡ (x + y) % 2
  own-digit = digit₂ (λ x y. (x + y * y) % 2 ≡ (x + y) % 2) refl refl refl refl

  pub square-two : (t' : List ℕ) → RowsXor t t' mask mask → ((a b : ℕ) → link t a b ≡ link t b a) → (a b : ℕ) → link t' a b ≡ link t' b a
  square-two t' x sq a b =
      link-xor t t' mask mask x a b ∙ ap₂ (λ p q. (p + q) % 2) (sq a b) (mul_comm (bit mask a) (bit mask b))
      ∙ sym (link-xor t t' mask mask x b a)

  pub own-two : (t' : List ℕ) → RowsXor t t' mask mask → ((a : ℕ) → link t a a ≡ bit odd a) → (a : ℕ) → link t' a a
      ≡ bit (bit_xor odd mask) a
  own-two t' x own a =
      link-xor t t' mask mask x a a ∙ ap (λ p. (p + bit mask a * bit mask a) % 2) (own a)
      ∙ own-digit (bit odd a) (bit mask a) (bit-lt odd a) (bit-lt mask a) ∙ sym (bit-xor odd mask a)

-- ---- products of parities

par-left : (p q : ℕ) → p * q % 2 ≡ (p % 2) * q % 2
par-left p q =
    let e : p ≡ 2 * (p / 2) + p % 2 = omega arith in
    ap (λ x. x * q % 2) e ∙ ap (λ x. x % 2) (add-mul (2 * (p / 2)) (p % 2) q ∙ ap (λ x. x + (p % 2) * q) (mul_assoc 2 (p / 2) q))
    ∙ mul-add-mod_self_left 2 (p / 2 * q) ((p % 2) * q)

par-mul : (p q : ℕ) → p * q % 2 ≡ (p % 2) * (q % 2) % 2
par-mul p q = par-left p q ∙ ap (λ x. x % 2) (mul_comm (p % 2) q) ∙ par-left q (p % 2) ∙ ap (λ x. x % 2) (mul_comm (q % 2) (p % 2))

product-parity : (x p q : ℕ) → (x + 4 * (p * q)) % 8 ≡ (x + 4 * ((p % 2) * (q % 2))) % 8
product-parity x p q = add8 x x (4 * (p * q)) (4 * ((p % 2) * (q % 2))) refl (four (p * q) ((p % 2) * (q % 2)) (par-mul p q))

module _ (dim phase odd neg : ℕ) (t t₁ t₂ : List ℕ) (u v : ℕ) (x : RowsXor t t₁ u v) (y : RowsXor t₁ t₂ v u) where
  link-both : (a b : ℕ) → link t₂ a b ≡ (link t a b + bit u a * bit v b + bit v a * bit u b) % 2
  link-both a b = omega (arith, link-xor t t₁ u v x a b, link-xor t₁ t₂ v u y a b)

  pub square-both : ((a b : ℕ) → link t a b ≡ link t b a) → (a b : ℕ) → link t₂ a b ≡ link t₂ b a
  square-both sq a b = omega (arith, link-both a b, link-both b a, sq a b, mul_comm (bit u a) (bit v b), mul_comm (bit v a) (bit u b))

  pub own-both : ((a : ℕ) → link t a a ≡ bit odd a) → (a : ℕ) → link t₂ a a ≡ bit odd a
  own-both own a = omega (arith, link-both a a, own a, bit-lt odd a, mul_comm (bit u a) (bit v a))

  pub inside_both : u < 2 ^ dim → v < 2 ^ dim → ((a : ℕ) → get_or t a 0 < 2 ^ dim) → (a : ℕ) → get_or t₂ a 0 < 2 ^ dim
  inside_both hu hv l = inside-xor t₁ t₂ v u y dim hu (inside-xor t t₁ u v x dim hv l)

  pub value-product : (c : ℕ) → u < 2 ^ dim → v < 2 ^ dim
      → quad phase (coef odd (bit_xor neg (bit_and u v))) (link t₂) (bit c) dim % 8
      ≡ (quad phase (coef odd neg) (link t) (bit c) dim % 8 + 4 * (dot u c * dot v c)) % 8
  value-product c hu hv =
      let z = add-product phase (coef odd neg) (coef odd (bit_xor neg (bit_and u v))) (link t) (link t₂) (bit c)
      (bit-lt c) (bit u) (bit v) (bit-lt u) (bit-lt v) dim
      (λ k i. coef-four odd neg (bit_and u v) k ∙ ap (λ m. (coef odd neg k + 4 * m) % 8) (bit-and u v k))
      (λ k b i. omega (arith, link-both k b)) in
      let q = quad phase (coef odd neg) (link t) (bit c) dim in
      z ∙ product-parity q (inner (bit u) (bit c) dim) (inner (bit v) (bit c) dim)
      ∙ ap₂ (λ a b. (q + 4 * (a * b)) % 8) (sym (dot-inner dim u c hu)) (sym (dot-inner dim v c hv))
      ∙ add8 q (q % 8) _ _ (sym (mod-mod q 8)) refl

-- ---- a form shifted by u

pub value-shift : (dim phase odd neg : ℕ) (t : List ℕ) (u w c : ℕ) → ((a : ℕ) → get_or t a 0 < 2 ^ dim)
    → ((a b : ℕ) → link t a b ≡ link t b a) → ((a : ℕ) → link t a a ≡ bit odd a) → ((a : ℕ) → a < dim → bit w a ≡ dot (get_or t a 0) u)
    → quad (quad phase (coef odd neg) (link t) (bit u) dim % 8) (coef odd (bit_xor neg w)) (link t) (bit c) dim % 8
    ≡ quad phase (coef odd neg) (link t) (bit (bit_xor c u)) dim % 8
value-shift dim phase odd neg t u w c inside sq own hw =
    shift phase (quad phase (coef odd neg) (link t) (bit u) dim % 8) dim (coef odd neg) (coef odd (bit_xor neg w))
    (bit odd) (bit neg) (bit w) (bit c) (bit u) (bit (bit_xor c u)) (link t)
    (bit-lt c) (bit-lt u) (bit-lt (bit_xor c u)) (bit-xor c u) (λ k. refl) (λ a b i j. sq a b) (λ a i. own a)
    (mod-mod (quad phase (coef odd neg) (link t) (bit u) dim) 8) (λ k i. coef-four odd neg w k)
    (λ k i. omega (arith, hw k i, dot-inner dim (get_or t k 0) u (inside k)))

-- ---- the bilinear form

pub value-polar : (dim phase odd neg : ℕ) (t : List ℕ) (e w c : ℕ) → ((a : ℕ) → get_or t a 0 < 2 ^ dim)
    → ((a b : ℕ) → link t a b ≡ link t b a) → ((a : ℕ) → link t a a ≡ bit odd a) → w < 2 ^ dim
    → ((a : ℕ) → a < dim → bit w a ≡ dot (get_or t a 0) e)
    → (quad phase (coef odd neg) (link t) (bit (bit_xor c e)) dim + phase) % 8
    ≡ (quad phase (coef odd neg) (link t) (bit c) dim + quad phase (coef odd neg) (link t) (bit e) dim + 4 * dot w c) % 8
value-polar dim phase odd neg t e w c inside sq own hw hb =
    let D = coef odd neg in
    let J = link t in
    let p = polar (bit c) (bit e) (bit (bit_xor c e)) (bit-lt c) (bit-lt e) (bit-lt (bit_xor c e)) (bit-xor c e) phase D
    (bit odd) (bit neg) J (λ k. refl) dim in
    let r = cross-rows J (bit odd) (bit c) (bit e) (bit-lt c) (bit-lt e) dim (λ a b i j. sq a b) (λ a i. own a) in
    let s = sum-parity (λ a. bit w a * bit c a) (λ a. bit c a * inner (J a) (bit e) dim) dim
    (λ a i. shift-bit (bit w a) (inner (J a) (bit e) dim) (bit c a) (bit-lt c a)
    (omega (arith, hb a i, dot-inner dim (get_or t a 0) e (inside a)))) in
    let z : cross J (bit odd) (bit c) (bit e) dim % 2 ≡ dot w c % 2 =
    ap (λ x. x % 2) r ∙ sym s ∙ sym (mod-mod (inner (bit w) (bit c) dim) 2) ∙ ap (λ x. x % 2) (sym (dot-inner dim w c hw)) in
    p ∙ add8 q q (4 * cross J (bit odd) (bit c) (bit e) dim) (4 * dot w c) refl (four (cross J (bit odd) (bit c) (bit e) dim) (dot w c) z)
  where
    q : ℕ
    q = quad phase (coef odd neg) (link t) (bit c) dim + quad phase (coef odd neg) (link t) (bit e) dim
