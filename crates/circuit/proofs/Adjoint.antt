-- Linear maps of vectors with their adjoints under the inner product: matrices of opposite powers, sums and chains of such maps.
use Rattle.std.proofs.Common.{◌≡◌, ℕ, ◌^◌, ◌<◌, sym, refl, ap, ◌∙◌, ap₂}
use Rattle.cyclotomic.specs.Adjoin.{Omega, omegas}
use Rattle.cyclotomic.specs.CommFacts
use Rattle.cyclotomic.specs.Ring.{CommLaws, wpow, two}
use Rattle.cyclotomic.proofs.Conj.{conj-hom}
use Rattle.cyclotomic.proofs.Exact.{bar, bar-nil, bar-wpow}
use Rattle.cyclotomic.proofs.Ints.{int_laws, omega-laws}
use Rattle.cyclotomic.proofs.Sums
use Rattle.stabilizer.specs.Calls.{applied}
use Rattle.stabilizer.specs.Gates.{Monomial}
use Rattle.stabilizer.specs.Vectors.{inner}
use Rattle.stabilizer.proofs.Matrices.{Opposite}

infixl 65 ◌⊕◌
infixl 70 ◌⊗◌
open omegas use {nil, one, plus as ◌⊕◌, times as ◌⊗◌}

abbrev pub laws : CommLaws omegas
laws = omega-laws.comm

abbrev pub Vector : Type 0
Vector = ℕ → Omega

-- the same entries at the strings of n bits, a vector times a number, and the vector of zeros
abbrev pub Same : ℕ → Vector → Vector → Type 0
Same n v u = (y : ℕ) → y < 2 ^ n → v y ≡ u y

abbrev pub times-all : Omega → Vector → Vector
times-all a v y = a ⊗ v y

abbrev pub zeros : Vector
zeros y = nil

-- ---- conjugation

bar-plus : (x y : Omega) → bar (x ⊕ y) ≡ bar x ⊕ bar y
unfolding omegas
bar-plus = (conj-hom int_laws).plus_to

pub bar-times : (x y : Omega) → bar (x ⊗ y) ≡ bar x ⊗ bar y
unfolding omegas
bar-times = (conj-hom int_laws).times_to

pub bar-one : bar one ≡ one
unfolding omegas
bar-one = (conj-hom int_laws).one_to

pub bar-two : bar (two omegas) ≡ two omegas
bar-two = bar-plus one one ∙ ap₂ ◌⊕◌ bar-one bar-one

-- ---- the inner product

module _ (n : ℕ) where
  pub inner-same : {t u s v : Vector} → Same n t u → Same n s v → inner n t s ≡ inner n u v
  inner-same h i = Sums.sum_same laws _ _ (2 ^ n) (λ y l. ap₂ (λ a b. bar a ⊗ b) (h y l) (i y l))

  inner-plus-right : (t s v : Vector) → inner n t (λ y. s y ⊕ v y) ≡ inner n t s ⊕ inner n t v
  inner-plus-right t s v =
      Sums.sum_same laws _ _ (2 ^ n) (λ y l. laws.times_plus (bar (t y)) (s y) (v y)) ∙ Sums.sum-plus laws _ _ (2 ^ n)

  inner-plus-left : (t u v : Vector) → inner n (λ y. t y ⊕ u y) v ≡ inner n t v ⊕ inner n u v
  inner-plus-left t u v =
      Sums.sum_same laws _ _ (2 ^ n)
      (λ y l. ap (λ a. a ⊗ v y) (bar-plus (t y) (u y)) ∙ CommFacts.plus_times laws (bar (t y)) (bar (u y)) (v y))
      ∙ Sums.sum-plus laws _ _ (2 ^ n)

  pub inner-times : (a b : Omega) (t s : Vector) → inner n (times-all a t) (times-all b s) ≡ (bar a ⊗ b) ⊗ inner n t s
  inner-times a b t s =
      Sums.sum_same laws _ _ (2 ^ n)
      (λ y l. ap (λ c. c ⊗ (b ⊗ s y)) (bar-times a (t y)) ∙ CommFacts.times_middle laws (bar a) (bar (t y)) b (s y))
      ∙ Sums.sum-times laws (bar a ⊗ b) _ (2 ^ n)

  pub inner-zeros-right : (t v : Vector) → Same n v zeros → inner n t v ≡ nil
  inner-zeros-right t v h = Sums.sum-nil laws _ (2 ^ n) (λ y l. ap (◌⊗◌ (bar (t y))) (h y l) ∙ CommFacts.times_nil laws _)

  pub inner-zeros-left : (t v : Vector) → Same n t zeros → inner n t v ≡ nil
  inner-zeros-left t v h =
      Sums.sum-nil laws _ (2 ^ n) (λ y l. ap (λ a. a ⊗ v y) (ap bar (h y l) ∙ bar-nil) ∙ CommFacts.nil_times laws (v y))

-- ---- maps and their adjoints

-- f is linear, and moves to the other side of the inner product as g
pub record Adjoint (n : ℕ) (f g : Vector → Vector) : Type 0 where
  pub same : (v u : Vector) → Same n v u → Same n (f v) (f u)
  pub scales : (a : Omega) (v : Vector) → Same n (f (times-all a v)) (times-all a (f v))
  pub moves : (t v : Vector) → inner n t (f v) ≡ inner n (g t) v

module _ (n : ℕ) where
  pub adjoint-none : Adjoint n (λ v. v) (λ v. v)
  adjoint-none = record { same = λ v u h. h; scales = λ a v y l. refl; moves = λ t v. refl }

  pub adjoint-applied : (M N : Monomial) → Opposite n M N → Adjoint n (applied M) (applied N)
  adjoint-applied M N op = record {
    same = λ v u h y l. ap (◌⊗◌ (wpow omegas (M.turn y))) (h (M.move y) (op.inside y l));
    scales = λ a v y l. CommFacts.times_left_comm laws (wpow omegas (M.turn y)) a (v (M.move y));
    moves = λ t v.
        sym (Sums.involute laws M.move (2 ^ n) (λ y. bar (t y) ⊗ applied M v y) op.inside (λ y l. op.back y))
        ∙ Sums.sum_same laws _ _ (2 ^ n) (λ y l. ap (λ x. bar (t (M.move y)) ⊗ (wpow omegas (M.turn (M.move y)) ⊗ v x)) (op.back y)
        ∙ sym (laws.times_assoc _ _ _) ∙ ap (λ a. a ⊗ v y) (factor t y));
  }
    where
      factor : (t : Vector) (y : ℕ) → bar (t (M.move y)) ⊗ wpow omegas (M.turn (M.move y)) ≡ bar (applied N t y)
      factor t y =
          laws.times_comm _ _
          ∙ sym (ap₂ ◌⊗◌ (bar-wpow (N.turn y) (M.turn (M.move y)) (op.undone y)) (ap (λ x. bar (t x)) (op.together y)))
          ∙ sym (bar-times _ _)

  pub adjoint-plus : (f g f' g' : Vector → Vector) → Adjoint n f g → Adjoint n f' g'
      → Adjoint n (λ v y. f v y ⊕ f' v y) (λ v y. g v y ⊕ g' v y)
  adjoint-plus f g f' g' p q = record {
    same = λ v u h y l. ap₂ ◌⊕◌ (p.same v u h y l) (q.same v u h y l);
    scales = λ a v y l. ap₂ ◌⊕◌ (p.scales a v y l) (q.scales a v y l) ∙ sym (laws.times_plus a _ _);
    moves = λ t v. inner-plus-right n t (f v) (f' v) ∙ ap₂ ◌⊕◌ (p.moves t v) (q.moves t v) ∙ sym (inner-plus-left n (g t) (g' t) v);
  }

  -- f first, then f'
  pub adjoint-then : (f g f' g' : Vector → Vector) → Adjoint n f g → Adjoint n f' g' → Adjoint n (λ v. f' (f v)) (λ v. g (g' v))
  adjoint-then f g f' g' p q = record {
    same = λ v u h. q.same (f v) (f u) (p.same v u h);
    scales = λ a v y l. q.same (f (times-all a v)) (times-all a (f v)) (p.scales a v) y l ∙ q.scales a (f v) y l;
    moves = λ t v. q.moves t (f v) ∙ p.moves (g' t) v;
  }

  pub adjoint-zeros : (f g : Vector → Vector) → Adjoint n f g → (v : Vector) → Same n v zeros → Same n (f v) zeros
  adjoint-zeros f g p v h y l =
      p.same v (times-all nil v) (λ x i. h x i ∙ sym (CommFacts.nil_times laws (v x))) y l ∙ p.scales nil v y l
      ∙ CommFacts.nil_times laws _
