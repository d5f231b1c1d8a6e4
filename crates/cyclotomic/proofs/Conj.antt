use Rattle.std.proofs.Common.{◌≡◌, ℕ, zero, suc, sym, refl, ap, ◌∙◌, ap₂}
use Rattle.cyclotomic.specs.Ring.{Ops, CommLaws, wpow, root}
use Rattle.cyclotomic.specs.Adjoin.{Pair, tower, quad, conj}
use Rattle.cyclotomic.specs.CommFacts
use Rattle.cyclotomic.specs.CommFacts.{ring, units, negs}
use Rattle.cyclotomic.specs.AdjoinLaws.{both, tower_laws}
use Rattle.cyclotomic.proofs.Maps.{Hom}

pub four : {R : Type 0} {a b c d a' b' c' d' : R} → a ≡ a' → b ≡ b' → c ≡ c' → d ≡ d' → quad a b c d ≡ quad a' b' c' d'
four p q r s = both (both p r) (both q s)

ruleset sides = (units, negs, CommFacts.plus_assoc)

-- a map that takes w to its inverse takes its powers to their inverses
module _ {R : Type 0} {o : Ops R} (laws : CommLaws o) (h : R → R) (hom : Hom o o h) (turns : o.times (h o.w) o.w ≡ o.one) where
  hom-inverse : (m : ℕ) → o.times (h (wpow o m)) (wpow o m) ≡ o.one
  hom-inverse zero = ap (λ s. o.times s o.one) hom.one_to ∙ laws.times_one _
  hom-inverse (suc m) = ap (λ s. o.times s (wpow o (suc m))) (hom.times_to o.w (wpow o m))
      ∙ CommFacts.times_middle laws _ _ _ _ ∙ ap₂ o.times turns (hom-inverse m) ∙ laws.times_one _

module _ {R : Type 0} {o : Ops R} (laws : CommLaws o) where
  infixl 65 ◌⊕◌
  infixl 70 ◌⊗◌
  open o use {neg, plus as ◌⊕◌, times as ◌⊗◌}

  pub conj-conj : (z : Pair (Pair R)) → conj o (conj o z) ≡ z
  conj-conj z = four refl (CommFacts.neg_neg laws _) (CommFacts.neg_neg laws _) (CommFacts.neg_neg laws _)

  -- the product in coordinates
  pub tower-times : (a b c d e f g h : R) → (tower o).times (quad a b c d) (quad e f g h)
      ≡ quad (a ⊗ e ⊕ (neg (c ⊗ g) ⊕ (neg (b ⊗ h) ⊕ neg (d ⊗ f)))) (a ⊗ f ⊕ (neg (c ⊗ h) ⊕ (b ⊗ e ⊕ neg (d ⊗ g))))
      (a ⊗ g ⊕ (c ⊗ e ⊕ (b ⊗ f ⊕ neg (d ⊗ h)))) (a ⊗ h ⊕ (c ⊗ f ⊕ (b ⊗ g ⊕ d ⊗ e)))
  tower-times a b c d e f g h = four (simp (sides, laws)) (simp (sides, laws)) (simp (sides, laws)) (simp (sides, laws))

  times_to : (a b c d e f g h : R) → conj o ((tower o).times (quad a b c d) (quad e f g h))
      ≡ (tower o).times (quad a (neg d) (neg c) (neg b)) (quad e (neg h) (neg g) (neg f))
  times_to a b c d e f g h =
      ap (conj o) (tower-times a b c d e f g h)
      ∙ four (simp (negs, ring, laws)) (simp (negs, ring, laws)) (simp (negs, ring, laws)) (simp (negs, ring, laws))
      ∙ sym (tower-times a (neg d) (neg c) (neg b) e (neg h) (neg g) (neg f))

  pub conj-hom : Hom (tower o) (tower o) (conj o)
  conj-hom = record {
    one_to = four refl (simp (negs, laws)) (simp (negs, laws)) (simp (negs, laws));
    plus_to = λ x y. four refl (simp (negs, laws)) (simp (negs, laws)) (simp (negs, laws));
    times_to = λ x y. times_to x.re.re x.im.re x.re.im x.im.im y.re.re y.im.re y.re.im y.im.im;
  }

  -- w times its conjugate
  conj-w : (tower o).times (conj o (tower o).w) (tower o).w ≡ (tower o).one
  conj-w = four (simp (units, negs, laws)) (simp (units, negs, laws)) (simp (units, negs, laws)) (simp (units, negs, laws))

  -- so conj (w^m) is the inverse of w^m
  pub conj-wpow : (m : ℕ) → (tower o).times (conj o (wpow (tower o) m)) (wpow (tower o) m) ≡ (tower o).one
  conj-wpow m = hom-inverse (tower_laws laws).comm (conj o) conj-hom conj-w m

  pub conj-root : conj o (root (tower o)) ≡ root (tower o)
  conj-root = four (simp (units, laws)) (simp (units, negs, laws)) (simp (units, negs, laws)) (simp (units, laws))
