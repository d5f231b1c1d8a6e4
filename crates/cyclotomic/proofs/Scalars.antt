-- The scalars r^p w^m of ℤ[w]: none is 0, and equal ones have equal p and equal m modulo 8.
use Rattle.std.proofs.Common.{◌≡◌, ℕ, zero, suc, ◌+◌, ◌*◌, ◌%◌, ◌^◌, ◌<◌, ℤ, pos, ◌+ℤ◌, sym, refl, ap, ◌∙◌, ap₂, arith, lit<}
use native.Mathlib.Nat.{pow-le-pow_right}
use borrow.Author.Differences.{up, down, ints}
use Rattle.cyclotomic.specs.Ring.{wpow, root, rpow, exact}
use Rattle.cyclotomic.specs.Adjoin.{Pair, Omega, omegas, conj}
use Rattle.cyclotomic.specs.Adjoin
use Rattle.cyclotomic.specs.CommFacts
use Rattle.cyclotomic.proofs.RingFacts
use Rattle.cyclotomic.proofs.Ints.{int_laws, omega-laws}
use Rattle.cyclotomic.proofs.Conj.{conj-hom, conj-wpow, conj-root, four}
use Rattle.cyclotomic.proofs.Maps.{num}

abbrev bar : Omega → Omega
bar = conj Adjoin.ints

infixl 65 ◌⊕◌
infixl 70 ◌⊗◌
open omegas use {nil, plus as ◌⊕◌, times as ◌⊗◌}

-- the number n in ℤ[w]
num-is : (n : ℕ) → (num omegas n).re.re ≡ pos n
unfolding omegas
num-is zero = refl
num-is (suc n) = ap (◌+ℤ◌ (pos 1)) (num-is n) ∙ ap pos (omega arith)

num-same : (a b : ℕ) → num omegas a ≡ num omegas b → a ≡ b
num-same a b h = ap up (sym (num-is a) ∙ ap (λ z. z.re.re) h ∙ num-is b)

pub double-same : (x y : Omega) → x ⊕ x ≡ y ⊕ y → x ≡ y
unfolding omegas
double-same x y h = four (halve _ _ (ap (λ z. z.re.re) h)) (halve _ _ (ap (λ z. z.im.re) h))
    (halve _ _ (ap (λ z. z.re.im) h)) (halve _ _ (ap (λ z. z.im.im) h))
  where
    halve : (a b : ℤ) → a +ℤ a ≡ b +ℤ b → a ≡ b
    halve a b e = omega (arith, ints)

-- the power of w, read off the coordinates
turns : Omega → ℕ
turns z = up z.im.re + 2 * up z.re.im + 3 * up z.im.im + 4 * down z.re.re + 5 * down z.im.re
    + 6 * down z.re.im + 7 * down z.im.im

turns-wpow : (m : ℕ) → m < 8 → turns (wpow omegas m) ≡ m
unfolding turns omegas
turns-wpow = RingFacts.below-eight (λ m. turns (wpow omegas m) ≡ m) refl refl refl refl refl refl refl refl

wpow-same : (m n : ℕ) → wpow omegas m ≡ wpow omegas n → m % 8 ≡ n % 8
wpow-same m n h = sym (turns-wpow (m % 8) (omega arith))
    ∙ ap turns (sym (RingFacts.wpow-least omega-laws m) ∙ h ∙ RingFacts.wpow-least omega-laws n) ∙ turns-wpow (n % 8) (omega arith)

-- a scalar times its conjugate is 2^p
pub conj-rpow : (p : ℕ) → bar (rpow omegas p) ≡ rpow omegas p
unfolding omegas
conj-rpow zero = (conj-hom int_laws).one_to
conj-rpow (suc p) = (conj-hom int_laws).times_to (root omegas) (rpow omegas p) ∙ ap₂ ◌⊗◌ (conj-root int_laws) (conj-rpow p)

exact-norm : (p m : ℕ) → bar (exact omegas p m) ⊗ exact omegas p m ≡ num omegas (2 ^ p)
unfolding omegas
exact-norm p m =
    ap (λ s. s ⊗ exact omegas p m) ((conj-hom int_laws).times_to (rpow omegas p) (wpow omegas m))
    ∙ CommFacts.times_middle omega-laws.comm (bar (rpow omegas p)) (bar (wpow omegas m)) (rpow omegas p) (wpow omegas m)
    ∙ ap₂ ◌⊗◌ (ap (λ s. s ⊗ rpow omegas p) (conj-rpow p) ∙ RingFacts.rpow-square omega-laws p) (conj-wpow int_laws m)
    ∙ omega-laws.comm.times_one (num omegas (2 ^ p))

power-same : (p q : ℕ) → 2 ^ p ≡ 2 ^ q → p ≡ q
power-same zero zero h = refl
power-same zero (suc q) h = absurd (omega (arith, pow-le-pow_right {n = 2} (lit< tt) {i = 0} {j = q} (omega arith)))
power-same (suc p) zero h = absurd (omega (arith, pow-le-pow_right {n = 2} (lit< tt) {i = 0} {j = p} (omega arith)))
power-same (suc p) (suc q) h = ap suc (power-same p q (omega arith))

pub exact-not-nil : (p m : ℕ) → ¬ (exact omegas p m ≡ nil)
unfolding omegas
exact-not-nil p m h =
    let e : 2 ^ p ≡ 0 = num-same (2 ^ p) 0 (sym (exact-norm p m) ∙ ap (λ z. bar z ⊗ z) h) in
    omega (arith, pow-le-pow_right {n = 2} (lit< tt) {i = 0} {j = p} (omega arith))

pub exact_same : (p m q n : ℕ) → exact omegas p m ≡ exact omegas q n → (p ≡ q) × (m % 8 ≡ n % 8)
exact_same p m q n h =
    let e : p ≡ q = power-same p q (num-same _ _ (sym (exact-norm p m) ∙ ap (λ z. bar z ⊗ z) h ∙ exact-norm q n)) in (
      e,
      wpow-same m n
          (RingFacts.rpow-same omega-laws double-same p (wpow omegas m) (wpow omegas n) (h ∙ ap (λ k. exact omegas k n) (sym e))),
    )
