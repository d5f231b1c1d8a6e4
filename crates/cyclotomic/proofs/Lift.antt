-- A map of rings, coordinate by coordinate: the numbers of ℤ[w] modulo 2^64.
use Rattle.std.proofs.Common.{◌≡◌, ℕ, ◌^◌, pos, negsuc, sym, ap, ◌∙◌, lit<}
use Rattle.cyclotomic.specs.Ring.{Ops, CommLaws, wpow}
use Rattle.cyclotomic.specs.Adjoin.{Pair, adjoin, gauss, Omega, omegas, ints}
use Rattle.cyclotomic.specs.AdjoinLaws.{both, gauss_laws}
use Rattle.cyclotomic.specs.CommFacts
use Rattle.cyclotomic.specs.Modular.{Below, residues, Quad, quads}
use Rattle.cyclotomic.specs.ModularLaws.{residue_laws, quad_laws}
use Rattle.cyclotomic.specs.Sum.{sum_to}
use Rattle.cyclotomic.proofs.Extend.{nil-to, int-hom, sum-to-to, wpow-to}
use Rattle.cyclotomic.proofs.Ints.{int_laws, omega-laws}
use Rattle.cyclotomic.proofs.Sums
use Rattle.cyclotomic.proofs.Maps.{Hom, int_to}

abbrev pub each : {A B : Type 0} → (A → B) → Pair A → Pair B
each h x = record { re = h x.re; im = h x.im }

module _ {A B : Type 0} {o : Ops A} {p : Ops B} (from : CommLaws o) (to : CommLaws p) (h : A → B) (hom : Hom o p h) where
  neg-to : (x : A) → h (o.neg x) ≡ p.neg (h x)
  neg-to x = CommFacts.cancel to _ _ (h x)
      (sym (hom.plus_to (o.neg x) x) ∙ ap h (from.plus_comm _ _ ∙ from.plus_neg x) ∙ nil-to from to h hom
      ∙ sym (to.plus_comm _ _ ∙ to.plus_neg (h x)))

  each-hom : (s : A) (t : B) → h s ≡ t → Hom (adjoin o s) (adjoin p t) (each h)
  each-hom s t e = record {
    one_to = both hom.one_to (nil-to from to h hom);
    plus_to = λ x y. both (hom.plus_to _ _) (hom.plus_to _ _);
    times_to = λ x y. both (simp (hom.plus_to, hom.times_to, e)) (simp (hom.plus_to, hom.times_to));
  }

  each-w : (s : A) (t : B) → each h (adjoin o s).w ≡ (adjoin p t).w
  each-w s t = both (nil-to from to h hom) hom.one_to

-- the integers modulo 2^64, and ℤ[w] with coordinates modulo 2^64
abbrev pub words : Ops (Below (2 ^ 64))
words = residues (lit< tt) 1

word_laws : CommLaws words
word_laws = residue_laws (2 ^ 64) (lit< tt) 1

unfoldable pub modulo : Omega → Quad
modulo = each (each (int_to words))

gauss-each : Hom (gauss ints) (gauss words) (each (int_to words))
gauss-each = each-hom int_laws word_laws (int_to words) (int-hom word_laws) (negsuc 0) (words.neg words.one)
    (neg-to int_laws word_laws (int_to words) (int-hom word_laws) (pos 1) ∙ ap words.neg (int-hom word_laws).one_to)

modulo-hom : Hom omegas quads modulo
unfolding omegas modulo
modulo-hom = each-hom (gauss_laws int_laws) (gauss_laws word_laws) (each (int_to words)) gauss-each (gauss ints).w (gauss words).w
    (each-w int_laws word_laws (int_to words) (int-hom word_laws) (negsuc 0) (words.neg words.one))

modulo-w : modulo omegas.w ≡ quads.w
unfolding omegas modulo
modulo-w = each-w (gauss_laws int_laws) (gauss_laws word_laws) (each (int_to words)) gauss-each (gauss ints).w (gauss words).w

-- a sum of powers of w modulo 2^64 is the sum of powers modulo 2^64
pub modulo-powers : (q : ℕ → ℕ) (n : ℕ) → modulo (sum_to omegas (λ c. wpow omegas (q c)) n) ≡ sum_to quads (λ c. wpow quads (q c)) n
modulo-powers q n =
    sum-to-to omega-laws.comm quad_laws.comm modulo modulo-hom (λ c. wpow omegas (q c)) n
    ∙ Sums.sum_same quad_laws.comm _ _ n (λ c l. wpow-to omega-laws.comm quad_laws.comm modulo modulo-hom modulo-w (q c))

pub modulo-nil : modulo omegas.nil ≡ quads.nil
modulo-nil = nil-to omega-laws.comm quad_laws.comm modulo modulo-hom
