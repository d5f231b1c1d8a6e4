-- The coefficients of a form, from its values at strings with at most two bits.
use Rattle.std.proofs.Common.{◌≡◌, ℕ, zero, suc, ◌+◌, ◌*◌, ◌/◌, ◌%◌, ◌^◌, ◌<◌, Bool, true, false, get_or, sym, refl, ap, ◌∙◌, ap₂, inl, inr, add-zero, mod-eq_of_lt, add-mul, one-mul, pow-suc, mul-zero, zero-add, zero-mul, mul-add, arith}
use lib.Pow.{pow-lt}
use Rattle.std.proofs.lemmas.Bool.{cases_lt, cases_eq}
use Rattle.quadratic.specs.Bits.{bit, inner}
use Rattle.quadratic.specs.Fields.{coefficient_at}
use Rattle.quadratic.specs.Quadratic.{quad, coef, link}
use Rattle.quadratic.specs.Value.{value_at}
use Rattle.quadratic.specs.Building.{LinearAdded, Coupled}
use Rattle.quadratic.specs.declared.form.QuadraticForm.{QuadraticForm}
use Rattle.quadratic.specs.declared.phased.PhasedSpace.{PhasedSpace}
use Rattle.quadratic.proofs.Algebra.{quad-zero, quad-one, quad-same, inner-one, sum_same, cancel8, add8, carry}
use Rattle.quadratic.proofs.Bitlaws.{bit-lt, bit-zero, bit_past, bit-top, bit-under, bit-pow, bit-pow-other}
use Rattle.archive.specs.Coefficients.{Grown, LinearGrown, CouplingGrown}

-- at two bits
quad-two : (Q : ℕ) (D : ℕ → ℕ) (J : ℕ → ℕ → ℕ) (a b n : ℕ) → b < a → a < n
    → quad Q D J (bit (2 ^ a + 2 ^ b)) n ≡ Q + D b + (D a + 4 * J a b)
quad-two Q D J a b zero l h = absurd (omega arith)
quad-two Q D J a b (suc n) l h =
    let c = bit (2 ^ a + 2 ^ b) in
    let less : 2 ^ b < 2 ^ a = pow-lt l in
    elim (cases_lt a n) [
      | inl i ↦
          let past : c n ≡ 0 = bit_past (suc a) (2 ^ a + 2 ^ b) n (omega (arith, pow-suc 2 a)) i in
          ap₂ (λ q x. q + x * (D n + 4 * inner (J n) c n)) (quad-two Q D J a b n l i) past ∙ simp (zero-mul, add-zero)
      | inr i ↦
          let e : n ≡ a = omega arith in
          let same : (k : ℕ) → k < a → c k ≡ bit (2 ^ b) k = λ k j. bit-under a (2 ^ b) k less j in
          let low : quad Q D J c a ≡ Q + D b = quad-same Q D J c (bit (2 ^ b)) a same
          ∙ quad-one Q D J (bit (2 ^ b)) b a l (bit-pow b) (bit-pow-other b) in
          let row : inner (J a) c a ≡ J a b = sum_same (λ k. J a k * c k) (λ k. J a k * bit (2 ^ b) k) a
          (λ k j. ap (λ x. J a k * x) (same k j)) ∙ inner-one (J a) (bit (2 ^ b)) b a l (bit-pow b) (bit-pow-other b) in
          ap (λ m. quad Q D J c m + c m * (D m + 4 * inner (J m) c m)) e
          ∙ ap₂ (λ x y. x + y * (D a + 4 * inner (J a) c a)) low (bit-top a (2 ^ b) less)
          ∙ rw one-mul (ap (λ x. Q + D b + (D a + 4 * x)) row)
    ]

module _ (f : QuadraticForm) where
  pub value-zero : value_at f 0 ≡ f.phase
  unfolding value_at
  value-zero = ap (λ x. x % 8) (quad-zero f.phase (coef f.odd f.neg) (link f.coupling) (bit 0) 48 bit-zero)
      ∙ mod-eq_of_lt f.phased

  pub value-one : (k : ℕ) → k < 48 → value_at f (2 ^ k) ≡ (f.phase + coef f.odd f.neg k) % 8
  unfolding value_at
  value-one k l = ap (λ x. x % 8) (quad-one f.phase (coef f.odd f.neg) (link f.coupling) (bit (2 ^ k)) k 48 l (bit-pow k)
      (bit-pow-other k))

  pub value-two : (k b : ℕ) → k < 48 → b < k
      → value_at f (2 ^ k + 2 ^ b) ≡ (f.phase + coef f.odd f.neg b + (coef f.odd f.neg k + 4 * link f.coupling k b)) % 8
  unfolding value_at
  value-two k b l h = ap (λ x. x % 8) (quad-two f.phase (coef f.odd f.neg) (link f.coupling) k b 48 h l)

  pub coef-low : (k : ℕ) → coef f.odd f.neg k < 8
  coef-low k = omega (arith, bit-lt f.odd k, bit-lt f.neg k)

  pub link-low : (k b : ℕ) → link f.coupling k b < 2
  link-low k b = bit-lt (get_or f.coupling k 0) b

-- sums modulo 8
inside : (x y t : ℕ) → ((x + y) % 8 + t) % 8 ≡ (x + (y + t)) % 8
inside x y t = omega arith

drop8 : (q x y t : ℕ) → x < 8 → (q + x) % 8 ≡ ((q + y) % 8 + t) % 8 → x ≡ (y + t) % 8
drop8 q x y t h e = sym (mod-eq_of_lt h) ∙ cancel8 q q x (y + t) refl (e ∙ inside q y t)

four-mod : (x : ℕ) → 4 * x % 8 ≡ 4 * (x % 2)
four-mod x = carry (4 * x) (4 * (x % 2)) 0 (x / 2) (omega arith) ∙ mod-eq_of_lt {n = 4 * (x % 2)} {m = 8} (omega arith)

halves : (x y : ℕ) → x < 2 → 4 * x % 8 ≡ 4 * y % 8 → x ≡ y % 2
halves x y h e = sym (mod-eq_of_lt h) ∙ quarter (x % 2) (y % 2) (sym (four-mod x) ∙ e ∙ four-mod y) where
  quarter : (a b : ℕ) → 4 * a ≡ 4 * b → a ≡ b
  quarter a b e = omega arith

drop-pair : (q x₀ x₁ y₀ y₁ l m t₀ t₁ w : ℕ) → m < 2 → y₀ ≡ (x₀ + t₀) % 8 → y₁ ≡ (x₁ + t₁) % 8
    → (q + y₀ + (y₁ + 4 * m)) % 8 ≡ ((q + x₀ + (x₁ + 4 * l)) % 8 + (t₁ + t₀ + 4 * w)) % 8 → m ≡ (l + w) % 2
drop-pair q x₀ x₁ y₀ y₁ l m t₀ t₁ w h e₀ e₁ e =
    let mod₀ : y₀ % 8 ≡ (x₀ + t₀) % 8 = omega arith in
    let mod₁ : y₁ % 8 ≡ (x₁ + t₁) % 8 = omega arith in
    let front : (q + y₀ + y₁) % 8 ≡ (q + (x₀ + t₀) + (x₁ + t₁)) % 8 = add8 _ _ _ _ (add8 q q _ _ refl mod₀) mod₁ in
    let left : q + y₀ + (y₁ + 4 * m) ≡ q + y₀ + y₁ + 4 * m = omega arith in
    let sum : q + x₀ + (x₁ + 4 * l + (t₁ + t₀ + 4 * w)) ≡ q + (x₀ + t₀) + (x₁ + t₁) + 4 * (l + w) = omega arith in
    let right : ((q + x₀ + (x₁ + 4 * l)) % 8 + (t₁ + t₀ + 4 * w)) % 8 ≡ (q + (x₀ + t₀) + (x₁ + t₁) + 4 * (l + w)) % 8 =
    inside (q + x₀) (x₁ + 4 * l) (t₁ + t₀ + 4 * w) ∙ ap (λ z. z % 8) sum in
    halves m (l + w) h (cancel8 _ _ (4 * m) (4 * (l + w)) front (ap (λ z. z % 8) (sym left) ∙ e ∙ right))

-- a change T of the values that is 0 at 0, and at two bits the sum of those at each and of 4 w
module _ (s s' : PhasedSpace) (space : s'.space ≡ s.space) (T : ℕ → ℕ)
    (step : (c : ℕ) → value_at s'.form c ≡ (value_at s.form c + T c) % 8) (none : T 0 ≡ 0) where
  same-phase : s'.form.phase ≡ s.form.phase
  same-phase =
      sym (value-zero s'.form) ∙ step 0 ∙ ap₂ (λ x y. (x + y) % 8) (value-zero s.form) none
      ∙ ap (λ x. x % 8) (add-zero s.form.phase) ∙ mod-eq_of_lt s.form.phased

  more-linear : (k : ℕ) → k < 48 → coefficient_at s' k ≡ (coefficient_at s k + T (2 ^ k)) % 8
  more-linear k l =
      drop8 s.form.phase (coefficient_at s' k) (coefficient_at s k) (T (2 ^ k)) (coef-low s'.form k)
      (ap (λ q. (q + coefficient_at s' k) % 8) (sym same-phase) ∙ sym (value-one s'.form k l) ∙ step (2 ^ k)
      ∙ ap (λ x. (x + T (2 ^ k)) % 8) (value-one s.form k l))

  more-coupling : (W : ℕ → ℕ → ℕ) → ((k b : ℕ) → b < k → T (2 ^ k + 2 ^ b) ≡ T (2 ^ k) + T (2 ^ b) + 4 * W k b)
      → (k b : ℕ) → k < 48 → b < k → link s'.form.coupling k b ≡ (link s.form.coupling k b + W k b) % 2
  more-coupling W both k b l h =
      drop-pair s.form.phase (coefficient_at s b) (coefficient_at s k) (coefficient_at s' b) (coefficient_at s' k) (link s.form.coupling k b)
      (link s'.form.coupling k b) (T (2 ^ b)) (T (2 ^ k)) (W k b)
      (link-low s'.form k b) (more-linear b (omega arith)) (more-linear k l)
      (ap (λ q. (q + coefficient_at s' b + (coefficient_at s' k + 4 * link s'.form.coupling k b)) % 8) (sym same-phase)
      ∙ sym (value-two s'.form k b l h) ∙ step (2 ^ k + 2 ^ b) ∙ ap₂ (λ x y. (x + y) % 8) (value-two s.form k b l h) (both k b h))

  pub grown : (W : ℕ → ℕ → ℕ) → ((k b : ℕ) → b < k → T (2 ^ k + 2 ^ b) ≡ T (2 ^ k) + T (2 ^ b) + 4 * W k b) → Grown s s' (λ k. T (2 ^ k)) W
  grown W both = record { space = space; phase = same-phase; linear = more-linear; coupling = more-coupling W both }

-- the bits of a sum of two powers
pub bit-both : (k b p : ℕ) → b < k → bit (2 ^ k + 2 ^ b) p ≡ bit (2 ^ k) p + bit (2 ^ b) p
bit-both k b p h =
    let less : 2 ^ b < 2 ^ k = pow-lt h in
    elim (cases_eq p k) [
      | inl e ↦ rw e (bit-top k (2 ^ b) less ∙ sym (ap₂ (λ x y. x + y) (bit-pow k) (bit-pow-other b k (omega arith))))
      | inr ne ↦ elim (cases_lt p k) [
        | inl l ↦ bit-under k (2 ^ b) p less l ∙ sym (ap (λ x. x + bit (2 ^ b) p) (bit-pow-other k p ne) ∙ zero-add (bit (2 ^ b) p))
        | inr g ↦
            let high : 2 ^ k + 2 ^ b < 2 ^ suc k = omega (arith, pow-suc 2 k) in
            bit_past (suc k) (2 ^ k + 2 ^ b) p high (omega arith)
            ∙ sym (ap₂ (λ x y. x + y) (bit-pow-other k p ne) (bit-pow-other b p (omega arith)))
      ]
    ]

pub linear-grown : (s s' : PhasedSpace) (p value : ℕ) → LinearAdded true s s' p (2 * value) → LinearGrown s s' p value
linear-grown s s' p value h =
    grown s s' h.3 (λ c. 2 * value * bit c p) h.4 (ap (λ x. 2 * value * x) (bit-zero p) ∙ mul-zero (2 * value))
    (λ k b. 0) (λ k b l. ap (λ x. 2 * value * x) (bit-both k b p l) ∙ mul-add (2 * value) (bit (2 ^ k) p) (bit (2 ^ b) p) ∙ omega arith)

-- one of two different pivots is not the place of a power
apart-powers : (k p q : ℕ) → q < p → bit (2 ^ k) p * bit (2 ^ k) q ≡ 0
apart-powers k p q h = elim (cases_eq p k) [
  | inl e ↦ ap (λ x. bit (2 ^ k) p * x) (bit-pow-other k q (omega arith)) ∙ mul-zero (bit (2 ^ k) p)
  | inr ne ↦ ap (λ x. x * bit (2 ^ k) q) (bit-pow-other k p ne) ∙ zero-mul (bit (2 ^ k) q)
]

cross-powers : (k b p q : ℕ) → b < k → q < p → bit (2 ^ b) p * bit (2 ^ k) q ≡ 0
cross-powers k b p q l h = elim (cases_eq p b) [
  | inl e ↦ ap (λ x. bit (2 ^ b) p * x) (bit-pow-other k q (omega arith)) ∙ mul-zero (bit (2 ^ b) p)
  | inr ne ↦ ap (λ x. x * bit (2 ^ k) q) (bit-pow-other b p ne) ∙ zero-mul (bit (2 ^ k) q)
]

product : (w x y z : ℕ) → w * y ≡ 0 → x * z ≡ 0 → x * y ≡ 0 → (w + x) * (y + z) ≡ w * z
product w x y z e f g =
    let s = add-mul w x (y + z) in
    let t = mul-add w y z in
    let u = mul-add x y z in omega arith

pub coupling-grown : (s s' : PhasedSpace) (p q : ℕ) → q < p → Coupled true s s' p q → CouplingGrown s s' p q 1
coupling-grown s s' p q less h =
    let g = grown s s' h.3 (λ c. 4 * (bit c p * bit c q)) h.4
    (ap (λ x. 4 * (x * bit 0 q)) (bit-zero p) ∙ ap (λ x. 4 * x) (zero-mul (bit 0 q)))
    (λ k b. bit (2 ^ k) p * bit (2 ^ b) q)
    (λ k b l.
    let both = ap₂ (λ x y. x * y) (bit-both k b p l) (bit-both k b q l)
    ∙ product (bit (2 ^ k) p) (bit (2 ^ b) p) (bit (2 ^ k) q) (bit (2 ^ b) q) (apart-powers k p q less) (apart-powers b p q less)
    (cross-powers k b p q l less) in
    let u = apart-powers k p q less in
    let v = apart-powers b p q less in
    omega arith) in
    record {
      space = g.space;
      phase = g.phase;
      linear = λ k l. g.linear k l ∙ ap (λ x. (coefficient_at s k + 4 * x) % 8) (apart-powers k p q less);
      coupling = λ k b l i. g.coupling k b l i
          ∙ ap (λ x. (link s.form.coupling k b + x) % 2) (sym (one-mul (bit (2 ^ k) p * bit (2 ^ b) q)));
    }

-- nothing is added
pub nothing-grown : (s s' : PhasedSpace) (p q : ℕ) → s' ≡ s → CouplingGrown s s' p q 0
nothing-grown s s' p q e = record {
  space = ap (λ x. x.space) e;
  phase = ap (λ x. x.form.phase) e;
  linear = λ k l. ap (λ x. coefficient_at x k) e ∙ sym (ap (λ x. x % 8) (add-zero (coefficient_at s k)) ∙ mod-eq_of_lt (coef-low s.form k));
  coupling = λ k b l i. ap (λ x. link x.form.coupling k b) e
      ∙ sym (ap (λ x. (link s.form.coupling k b + x) % 2) (zero-mul (bit (2 ^ k) p * bit (2 ^ b) q))
      ∙ ap (λ x. x % 2) (add-zero (link s.form.coupling k b)) ∙ mod-eq_of_lt (link-low s.form k b));
}

-- neither step is refused
pub linear-granted : (r : Bool) (s s' : PhasedSpace) (p value : ℕ) → bit s.space.pivots p ≡ 1 → value < 4
    → LinearAdded r s s' p (2 * value) → LinearAdded true s s' p (2 * value)
linear-granted true s s' p value on l h = h
linear-granted false s s' p value on l h = absurd (h.1 on (omega arith) (omega arith))

pub coupling-granted : (r : Bool) (s s' : PhasedSpace) (p q : ℕ) → bit s.space.pivots p ≡ 1 → bit s.space.pivots q ≡ 1 → q < p
    → Coupled r s s' p q → Coupled true s s' p q
coupling-granted true s s' p q on at l h = h
coupling-granted false s s' p q on at l h = absurd (h.1 on at (λ e. omega arith))
