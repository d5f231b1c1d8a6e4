use Rattle.std.specs.Prelude.{◌≡◌}
use Rattle.std.proofs.Common.{ap, ap₂, ◌∙◌}
use Rattle.cyclotomic.specs.Ring.{Ops, CommLaws, RingLaws}
use Rattle.cyclotomic.specs.Adjoin.{Pair, adjoin, gauss, tower}
use Rattle.cyclotomic.specs.CommFacts.{ring, units}

pub both : {R : Type 0} {a b c d : R} → a ≡ c → b ≡ d → ◌≡◌ {A = Pair R} (record { re = a; im = b }) (record { re = c; im = d })
both p q = ap₂ (λ x y. record { re = x; im = y }) p q

module _ {R : Type 0} {o : Ops R} (laws : CommLaws o) (s : R) where
  infixl 65 ◌⊕◌
  infixl 70 ◌⊗◌
  open o use {nil, one, w, neg, plus as ◌⊕◌, times as ◌⊗◌}
  open laws use {plus_nil, plus_neg, plus_assoc}

  pub adjoin_laws : CommLaws (adjoin o s)
  adjoin_laws = record {
    plus_comm = λ x y. both (laws.plus_comm _ _) (laws.plus_comm _ _);
    plus_assoc = λ x y z. both (plus_assoc _ _ _) (plus_assoc _ _ _);
    plus_nil = λ x. both (plus_nil _) (plus_nil _);
    plus_neg = λ x. both (plus_neg _) (plus_neg _);
    times_comm = λ x y. both (simp (ring, laws)) (simp (ring, laws));
    times_assoc = λ x y z. both (simp (ring, laws)) (simp (ring, laws));
    times_one = λ x. both (simp (units, laws)) (simp (units, laws));
    times_plus = λ x y z. both (simp (ring, laws)) (simp (ring, laws));
  }

module _ {R : Type 0} {o : Ops R} (laws : CommLaws o) where
  pub gauss_laws : CommLaws (gauss o)
  gauss_laws = adjoin_laws laws _

  pub tower_laws : RingLaws (tower o)
  tower_laws = record {
    comm = adjoin_laws gauss_laws _;
    w_fourth = both (both (simp (units, laws) (laws.plus_comm _ _ ∙ laws.plus_neg _)) (simp (units, laws)))
        (both (simp (units, laws)) (simp (units, laws)));
  }

pub pair_discrete : {R : Type 0} → Discrete R → Discrete (Pair R)
pair_discrete {R} d x y = both_of (d x.re y.re) (d x.im y.im)
  where
    both_of : Dec (x.re ≡ y.re) → Dec (x.im ≡ y.im) → Dec (x ≡ y)
    both_of (yes p) (yes q) = yes (both p q)
    both_of (yes p) (no f) = no (λ e. f (ap (λ z. z.im) e))
    both_of (no f) e = no (λ e. f (ap (λ z. z.re) e))
