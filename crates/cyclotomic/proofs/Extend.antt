-- Maps out of a ring with a square root adjoined, and out of ℤ[w].
use Rattle.std.proofs.Common.{◌≡◌, ℕ, zero, suc, ◌+◌, negsuc, ◌+ℤ◌, sym, ap, ◌∙◌, ap₂, arith}
use borrow.Author.Differences.{up, down, sum_is_lem, product_is}
use Rattle.cyclotomic.specs.Ring.{Ops, CommLaws, RingLaws, wpow, root, rpow, exact}
use Rattle.cyclotomic.specs.Adjoin.{adjoin, gauss, omegas, ints}
use Rattle.cyclotomic.specs.Sum.{sum_to}
use Rattle.cyclotomic.specs.CommFacts
use Rattle.cyclotomic.specs.CommFacts.{ring, units, negs}
use Rattle.cyclotomic.specs.AdjoinLaws.{gauss_laws}
use Rattle.cyclotomic.proofs.Ints.{int_laws, omega-laws}
use Rattle.cyclotomic.proofs.RingFacts
use Rattle.cyclotomic.proofs.Sums
use Rattle.cyclotomic.proofs.Maps.{Hom, extend, gauss_to, int_to, num, num_plus, num_times, omega_to}

module _ {A B : Type 0} {o : Ops A} {p : Ops B} (from : CommLaws o) (to : CommLaws p) (h : A → B) (hom : Hom o p h) where
  pub nil-to : h o.nil ≡ p.nil
  nil-to = CommFacts.cancel to _ _ (h o.nil)
      (sym (hom.plus_to o.nil o.nil) ∙ ap h (from.plus_nil o.nil) ∙ sym (CommFacts.nil_plus to _))

  extend-hom : (s : A) (t : B) → p.times t t ≡ h s → Hom (adjoin o s) p (extend p h t)
  extend-hom s t square = record {
    one_to = simp (extend, hom.one_to, nil-to, units, to);
    plus_to = λ x y. simp (extend, hom.plus_to, ring, to);
    times_to = λ x y. simp (extend, hom.plus_to, hom.times_to, ← square, ring, to);
  }

  extend-w : (s : A) (t : B) → extend p h t (adjoin o s).w ≡ t
  extend-w s t = simp (extend, hom.one_to, nil-to, units, to)

  pub sum-to-to : (f : ℕ → A) (n : ℕ) → h (sum_to o f n) ≡ sum_to p (λ c. h (f c)) n
  sum-to-to f zero = nil-to
  sum-to-to f (suc n) = hom.plus_to (sum_to o f n) (f n) ∙ ap (λ s. p.plus s (h (f n))) (sum-to-to f n)

  module _ (w-to : h o.w ≡ p.w) where
    pub wpow-to : (m : ℕ) → h (wpow o m) ≡ wpow p m
    wpow-to zero = hom.one_to
    wpow-to (suc m) = hom.times_to o.w (wpow o m) ∙ ap₂ p.times w-to (wpow-to m)

    rpow-to : (m : ℕ) → h (rpow o m) ≡ rpow p m
    rpow-to zero = hom.one_to
    rpow-to (suc m) = hom.times_to (root o) (rpow o m)
        ∙ ap₂ p.times (hom.plus_to (wpow o 1) (wpow o 7) ∙ ap₂ p.plus (wpow-to 1) (wpow-to 7)) (rpow-to m)

    exact-to : (i m : ℕ) → h (exact o i m) ≡ exact p i m
    exact-to i m = hom.times_to (rpow o i) (wpow o m) ∙ ap₂ p.times (rpow-to i) (wpow-to m)

module _ {R : Type 0} {o : Ops R} (laws : CommLaws o) where
  pub int-hom : Hom ints o (int_to o)
  int-hom = record {
    one_to = simp (int_to, units, negs, laws);
    plus_to = λ x y. CommFacts.differ laws _ _ _ _ (moved (up (x +ℤ y)) (down x) (down y) (down (x +ℤ y)) (up x) (up y) (sum_is_lem x y))
        ∙ simp (int_to, num_plus, negs, ring, laws);
    times_to = λ x y. simp (int_to, (product_is x y).0, (product_is x y).1, num_plus, num_times, negs, ring, laws);
  }
    where
      moved : (a b c d e f : ℕ) → a + b + c ≡ d + e + f → o.plus (num o a) (num o (b + c)) ≡ o.plus (num o (e + f)) (num o d)
      moved a b c d e f h =
          let k : a + (b + c) ≡ e + f + d = omega arith in
          sym (num_plus laws a (b + c)) ∙ ap (num o) k ∙ num_plus laws (e + f) d

module _ {R : Type 0} {o : Ops R} (laws : RingLaws o) where
  open laws use {comm}

  gauss-hom : Hom (gauss ints) o (gauss_to o)
  gauss-hom = extend-hom int_laws comm (int_to o) (int-hom comm) (negsuc 0) (o.times o.w o.w)
      (simp (int_to, units, comm.times_assoc, comm)
      (ap (λ x. o.times o.w (o.times o.w (o.times o.w x))) (sym (comm.times_one o.w)) ∙ RingFacts.wpow-four laws))

  omega-hom : Hom omegas o (omega_to o)
  unfolding omegas
  omega-hom = extend-hom (gauss_laws int_laws) comm (gauss_to o) gauss-hom (gauss ints).w o.w
      (sym (extend-w int_laws comm (int_to o) (int-hom comm) (negsuc 0) _))

  omega-w : omega_to o omegas.w ≡ o.w
  unfolding omegas
  omega-w = extend-w (gauss_laws int_laws) comm (gauss_to o) gauss-hom (gauss ints).w o.w

  powers : (q : ℕ → ℕ) (n : ℕ) → omega_to o (sum_to omegas (λ c. wpow omegas (q c)) n) ≡ sum_to o (λ c. wpow o (q c)) n
  powers q n =
      sum-to-to omega-laws.comm comm (omega_to o) omega-hom (λ c. wpow omegas (q c)) n
      ∙ Sums.sum_same comm _ _ n (λ c l. wpow-to omega-laws.comm comm (omega_to o) omega-hom omega-w (q c))

  -- what a sum of powers of w is in ℤ[w], it is in every ring
  pub transfer : (q : ℕ → ℕ) (n p m : ℕ) → sum_to omegas (λ c. wpow omegas (q c)) n ≡ exact omegas p m
      → sum_to o (λ c. wpow o (q c)) n ≡ exact o p m
  transfer q n p m h = sym (powers q n) ∙ ap (omega_to o) h ∙ exact-to omega-laws.comm comm (omega_to o) omega-hom omega-w p m

  pub transfer-nil : (q : ℕ → ℕ) (n : ℕ) → sum_to omegas (λ c. wpow omegas (q c)) n ≡ omegas.nil → sum_to o (λ c. wpow o (q c)) n ≡ o.nil
  transfer-nil q n h = sym (powers q n) ∙ ap (omega_to o) h ∙ nil-to omega-laws.comm comm (omega_to o) omega-hom
