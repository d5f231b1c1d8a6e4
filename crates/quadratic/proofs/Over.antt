-- Sums over the parts of a mask, in any ring.
use Rattle.std.proofs.Common.{◌≡◌, ℕ, zero, suc, ◌+◌, ◌*◌, ◌/◌, ◌%◌, ◌^◌, ◌<◌, ◌≤◌, eqb, sym, refl, ap, ◌∙◌, ap₂, add-zero, add-suc, suc-add, one-mul, pow-suc, zero-add, zero-mul, add-one, arith, pow_pos}
use native.Mathlib.Decide.{ℕ_discrete}
use lib.Bits.{bit_and, bit_xor, xor_assoc, xor_comm, xor_shifted, xor_zero_r}
use Rattle.std.proofs.lemmas.Bool.{eq-eqb, ne_eqb, cond-true, cond-false}
use Rattle.cyclotomic.specs.Ring.{Ops, CommLaws}
use Rattle.cyclotomic.specs.Sum.{sum_to}
use Rattle.cyclotomic.specs.CommFacts
use Rattle.cyclotomic.proofs.Sums
use Rattle.quadratic.specs.Bits.{bit, sum}
use Rattle.quadratic.specs.Numbering.{spread}
use Rattle.quadratic.specs.Sums.{over}
use Rattle.quadratic.proofs.Bitlaws.{digit, bit-lt, bit-zero}
use Rattle.quadratic.proofs.Laws.{and_pow}
use Rattle.quadratic.proofs.Linear.{and-linear}
use Rattle.quadratic.proofs.Lowest.{dropped, undropped}
use Rattle.quadratic.proofs.Numbering.{spread-on, spread-off}

-- c has bits of the mask alone
abbrev pub Part : ℕ → ℕ → Type 0
Part mask c = bit_and c mask ≡ c

part-more : (mask c n : ℕ) → bit mask n ≡ 1 → Part mask c → Part mask (bit_xor c (2 ^ n))
part-more mask c n on p = and-linear mask c (2 ^ n) ∙ ap₂ bit_xor p (and_pow n mask ∙ ap (λ b. b * 2 ^ n) on ∙ one-mul (2 ^ n))

pub twice : (k : ℕ) → 2 ^ (k + 1) ≡ 2 ^ k + 2 ^ k
twice k = ap (λ n. 2 ^ n) (add-one k) ∙ pow-suc 2 k ∙ omega arith

pub spread-lt : (n mask c : ℕ) → spread n mask c < 2 ^ n
unfolding spread
spread-lt zero mask c = pow_pos 0
spread-lt (suc n) mask c =
    let e = pow-suc 2 n in
    elim (ℕ_discrete (bit mask n) 1) [
      | yes on ↦
          let l = spread-lt n mask (c / 2) in
          let s = digit (λ b. b * 2 ^ n ≤ 2 ^ n) (omega arith) (omega arith) (c % 2) (omega arith) in
          rw (spread-on n mask c on) (omega (arith, l, s, e))
      | no off ↦ let l = spread-lt n mask c in rw (spread-off n mask c off) (omega (arith, l, e))
    ]

-- the strings numbered 2 x and 2 x + 1
even-string : (n mask x : ℕ) → bit mask n ≡ 1 → spread (suc n) mask (x + x) ≡ spread n mask x
even-string n mask x on =
    let e : (x + x) % 2 ≡ 0 = omega arith in
    let h : (x + x) / 2 ≡ x = omega arith in
    spread-on n mask (x + x) on ∙ ap₂ (λ b y. b * 2 ^ n + spread n mask y) e h ∙ ap (λ z. z + spread n mask x) (zero-mul (2 ^ n))
    ∙ zero-add (spread n mask x)

odd-string : (n mask c x : ℕ) → bit mask n ≡ 1
    → bit_xor c (spread (suc n) mask (suc (x + x))) ≡ bit_xor (bit_xor c (2 ^ n)) (spread n mask x)
odd-string n mask c x on =
    let e : suc (x + x) % 2 ≡ 1 = omega arith in
    let h : suc (x + x) / 2 ≡ x = omega arith in
    ap (bit_xor c) (spread-on n mask (suc (x + x)) on ∙ ap₂ (λ b y. b * 2 ^ n + spread n mask y) e h
    ∙ sym (xor_shifted 1 n (spread n mask x) (spread-lt n mask x))
    ∙ ap (λ z. bit_xor z (spread n mask x)) (one-mul (2 ^ n)))
    ∙ sym (xor_assoc c (2 ^ n) (spread n mask x))

module _ {R : Type 0} {o : Ops R} (laws : CommLaws o) where
  infixl 65 ◌⊕◌
  infixl 70 ◌⊗◌
  open o use {nil, plus as ◌⊕◌, times as ◌⊗◌}

  -- one position more
  over-on : (f : ℕ → R) (mask n c : ℕ) → bit mask n ≡ 1 → over o f mask (suc n) c ≡ over o f mask n c ⊕ over o f mask n (bit_xor c (2 ^ n))
  unfolding over
  over-on f mask n c on = cond-true (eqb (bit mask n) 1) _ _ (eq-eqb _ _ on)

  over-off : (f : ℕ → R) (mask n c : ℕ) → (bit mask n ≡ 1 → ⊥) → over o f mask (suc n) c ≡ over o f mask n c
  unfolding over
  over-off f mask n c off = cond-false (eqb (bit mask n) 1) _ _ (ne_eqb _ _ off)

  -- what holds of the parts of the mask
  pub over-same : (f g : ℕ → R) (mask n c : ℕ) → ((x : ℕ) → Part mask x → f x ≡ g x) → Part mask c → over o f mask n c ≡ over o g mask n c
  unfolding over
  over-same f g mask zero c h p = h c p
  over-same f g mask (suc n) c h p =
      elim (ℕ_discrete (bit mask n) 1) [
        | yes on ↦
            over-on f mask n c on ∙ ap₂ ◌⊕◌ (over-same f g mask n c h p)
            (over-same f g mask n (bit_xor c (2 ^ n)) h (part-more mask c n on p))
            ∙ sym (over-on g mask n c on)
        | no off ↦ over-off f mask n c off ∙ over-same f g mask n c h p ∙ sym (over-off g mask n c off)
      ]

  over-plus : (f g : ℕ → R) (mask n c : ℕ) → over o (λ x. f x ⊕ g x) mask n c ≡ over o f mask n c ⊕ over o g mask n c
  unfolding over
  over-plus f g mask zero c = refl
  over-plus f g mask (suc n) c =
      elim (ℕ_discrete (bit mask n) 1) [
        | yes on ↦
            over-on _ mask n c on ∙ ap₂ ◌⊕◌ (over-plus f g mask n c) (over-plus f g mask n (bit_xor c (2 ^ n)))
            ∙ CommFacts.middle laws _ _ _ _
            ∙ sym (ap₂ ◌⊕◌ (over-on f mask n c on) (over-on g mask n c on))
        | no off ↦ over-off _ mask n c off ∙ over-plus f g mask n c ∙ sym (ap₂ ◌⊕◌ (over-off f mask n c off) (over-off g mask n c off))
      ]

  pub over-times : (k : R) (f : ℕ → R) (mask n c : ℕ) → over o (λ x. k ⊗ f x) mask n c ≡ k ⊗ over o f mask n c
  unfolding over
  over-times k f mask zero c = refl
  over-times k f mask (suc n) c =
      elim (ℕ_discrete (bit mask n) 1) [
        | yes on ↦
            over-on _ mask n c on ∙ ap₂ ◌⊕◌ (over-times k f mask n c) (over-times k f mask n (bit_xor c (2 ^ n)))
            ∙ sym (laws.times_plus k _ _)
            ∙ ap (◌⊗◌ k) (sym (over-on f mask n c on))
        | no off ↦ over-off _ mask n c off ∙ over-times k f mask n c ∙ ap (◌⊗◌ k) (sym (over-off f mask n c off))
      ]

  -- a shift of every string
  over-shift : (f : ℕ → R) (k mask n c : ℕ) → over o (λ x. f (bit_xor x k)) mask n c ≡ over o f mask n (bit_xor c k)
  unfolding over
  over-shift f k mask zero c = refl
  over-shift f k mask (suc n) c =
      let e : bit_xor (bit_xor c (2 ^ n)) k ≡ bit_xor (bit_xor c k) (2 ^ n) =
      xor_assoc c (2 ^ n) k ∙ ap (bit_xor c) (xor_comm (2 ^ n) k) ∙ sym (xor_assoc c k (2 ^ n)) in
      elim (ℕ_discrete (bit mask n) 1) [
        | yes on ↦
            over-on _ mask n c on ∙ ap₂ ◌⊕◌ (over-shift f k mask n c) (over-shift f k mask n (bit_xor c (2 ^ n)) ∙ ap (over o f mask n) e)
            ∙ sym (over-on f mask n (bit_xor c k) on)
        | no off ↦ over-off _ mask n c off ∙ over-shift f k mask n c ∙ sym (over-off f mask n (bit_xor c k) off)
      ]

  -- masks with the same bits below n
  over-mask : (f : ℕ → R) (mask mask' n c : ℕ) → ((k : ℕ) → k < n → bit mask k ≡ bit mask' k) → over o f mask n c ≡ over o f mask' n c
  unfolding over
  over-mask f mask mask' zero c h = refl
  over-mask f mask mask' (suc n) c h =
      let e = h n (omega arith) in
      let below = λ (x : ℕ). over-mask f mask mask' n x (λ k l. h k (omega arith)) in
      elim (ℕ_discrete (bit mask n) 1) [
        | yes on ↦ over-on f mask n c on ∙ ap₂ ◌⊕◌ (below c) (below (bit_xor c (2 ^ n))) ∙ sym (over-on f mask' n c (sym e ∙ on))
        | no off ↦ over-off f mask n c off ∙ below c ∙ sym (over-off f mask' n c (λ on. off (e ∙ on)))
      ]

  pub over_none : (f : ℕ → R) (n c : ℕ) → over o f 0 n c ≡ f c
  unfolding over
  over_none f zero c = refl
  over_none f (suc n) c = over-off f 0 n c (λ on. let z = bit-zero n in omega (arith, z, on)) ∙ over_none f n c

  -- the highest variable is summed first
  out-top : (f : ℕ → R) (mask a n c : ℕ) → bit mask a ≡ 1 → a ≡ n
      → over o f mask (suc n) c ≡ over o (λ x. f x ⊕ f (bit_xor x (2 ^ a))) (bit_xor mask (2 ^ a)) (suc n) c
  out-top f mask a n c on e =
      let gone = dropped mask a on in
      over-on f mask n c (ap (bit mask) (sym e) ∙ on)
      ∙ ap (◌⊕◌ (over o f mask n c)) (ap (λ k. over o f mask n (bit_xor c (2 ^ k))) (sym e) ∙ sym (over-shift f (2 ^ a) mask n c))
      ∙ sym (over-plus f (λ x. f (bit_xor x (2 ^ a))) mask n c)
      ∙ over-mask _ mask (bit_xor mask (2 ^ a)) n c (λ k i. sym (undropped mask a k (omega arith)))
      ∙ sym (over-off _ (bit_xor mask (2 ^ a)) n c (λ o. let z = ap (bit (bit_xor mask (2 ^ a))) e in omega (arith, gone, o, z)))

  -- any variable of the mask is summed first
  pub over-out : (f : ℕ → R) (mask a n c : ℕ) → bit mask a ≡ 1 → a < n
      → over o f mask n c ≡ over o (λ x. f x ⊕ f (bit_xor x (2 ^ a))) (bit_xor mask (2 ^ a)) n c
  over-out f mask a zero c on l = absurd (omega arith)
  over-out f mask a (suc n) c on l =
      let mask' = bit_xor mask (2 ^ a) in
      elim (ℕ_discrete a n) [
        | yes e ↦ out-top f mask a n c on e
        | no ne ↦
            let same : bit mask' n ≡ bit mask n = undropped mask a n (λ e. ne (sym e)) in
            elim (ℕ_discrete (bit mask n) 1) [
              | yes s ↦
                  over-on f mask n c s
                  ∙ ap₂ ◌⊕◌ (over-out f mask a n c on (omega arith)) (over-out f mask a n (bit_xor c (2 ^ n)) on (omega arith))
                  ∙ sym (over-on _ mask' n c (same ∙ s))
              | no s ↦ over-off f mask n c s ∙ over-out f mask a n c on (omega arith) ∙ sym (over-off _ mask' n c (λ o. s (sym same ∙ o)))
            ]
      ]

  -- even and odd numbers
  sum-pairs : (f : ℕ → R) (m : ℕ) → sum_to o f (m + m) ≡ sum_to o (λ c. f (c + c) ⊕ f (suc (c + c))) m
  sum-pairs f zero = refl
  sum-pairs f (suc m) =
      rw (suc-add, add-suc) (laws.plus_assoc _ _ _ ∙ ap (λ s. s ⊕ (f (m + m) ⊕ f (suc (m + m)))) (sum-pairs f m))

  -- the parts of a mask are its strings by number
  pub over-numbered : (f : ℕ → R) (mask n c : ℕ)
      → over o f mask n c ≡ sum_to o (λ x. f (bit_xor c (spread n mask x))) (2 ^ sum (bit mask) n)
  unfolding over spread
  over-numbered f mask zero c = sym (CommFacts.nil_plus laws _ ∙ ap f (xor_zero_r c))
  over-numbered f mask (suc n) c =
      elim (ℕ_discrete (bit mask n) 1) [
        | yes on ↦
            let k = sum (bit mask) n in
            let double : 2 ^ k + 2 ^ k ≡ 2 ^ (k + bit mask n) = sym (ap (λ b. 2 ^ (k + b)) on ∙ twice k) in
            let g = λ (x : ℕ). f (bit_xor c (spread (suc n) mask x)) in
            over-on f mask n c on ∙ ap₂ ◌⊕◌ (over-numbered f mask n c) (over-numbered f mask n (bit_xor c (2 ^ n)))
            ∙ sym (Sums.sum-plus laws _ _ (2 ^ k))
            ∙ Sums.sum_same laws _ _ (2 ^ k)
            (λ x l. ap₂ ◌⊕◌ (ap (λ z. f (bit_xor c z)) (sym (even-string n mask x on))) (ap f (sym (odd-string n mask c x on))))
            ∙ sym (sum-pairs g (2 ^ k)) ∙ ap (sum_to o g) double
        | no off ↦
            let k = sum (bit mask) n in
            let z : bit mask n ≡ 0 = let l = bit-lt mask n in omega arith in
            over-off f mask n c off ∙ over-numbered f mask n c
            ∙ Sums.sum_same laws _ _ (2 ^ k) (λ x l. ap (λ y. f (bit_xor c y)) (sym (spread-off n mask x off)))
            ∙ ap (sum_to o _) (sym (ap (λ b. 2 ^ (k + b)) z ∙ ap (λ j. 2 ^ j) (add-zero k)))
      ]
