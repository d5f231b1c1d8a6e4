-- The exact values of scalars: how they turn, what their conjugates and products are, and that they tell scalars apart.
use Rattle.std.proofs.Common.{◌≡◌, ℕ, Option, Some, None, zero, suc, ◌+◌, ◌-◌, ◌*◌, ◌%◌, ◌<◌, ℤ, pos, negsuc, ◌+ℤ◌, sym, refl, ap, ◌∙◌, ap₂, inl, inr, mod-eq_of_lt, arith}
use borrow.Author.Differences.{ints}
use Rattle.cyclotomic.specs.Ring.{wpow, rpow, exact}
use Rattle.cyclotomic.specs.Adjoin.{Omega, omegas, conj}
use Rattle.cyclotomic.specs.Adjoin
use Rattle.cyclotomic.specs.CommFacts
use Rattle.cyclotomic.specs.Exact.{scaled, mirrored}
pub use Rattle.cyclotomic.specs.Exact.{Floor}
use Rattle.cyclotomic.specs.Scalars.{Triple, triple_of, triple_of_term, nought, unit, Kind, powered, chosen}
use Rattle.cyclotomic.specs.declared.scalar.Scalar.{Scalar}
use Rattle.cyclotomic.specs.declared.scalar.Term.{Term}
use Rattle.cyclotomic.proofs.Conj.{conj-hom, conj-wpow}
use Rattle.cyclotomic.proofs.Ints.{int_laws, omega-laws}
use Rattle.cyclotomic.proofs.RingFacts
use Rattle.cyclotomic.proofs.Scalars.{conj-rpow, exact-not-nil, exact_same}

abbrev pub bar : Omega → Omega
bar = conj Adjoin.ints

infixl 70 ◌⊗◌
open omegas use {nil, one, times as ◌⊗◌}

-- the triple of a scalar is one that there is
pub scalar-kind : (x : Scalar) → Kind (triple_of x)
scalar-kind x = go x.term
  where
    go : (t : Option Term) → Kind (triple_of_term t)
    go None = inl refl
    go (Some t) = inr (refl, t.eighths)

-- a triple turns by less than eight eighths
pub kind-turn : (x : Triple) → Kind x → x.2 < 8
kind-turn x (inl z) = let e = ap (λ y. y.2) z in omega arith
kind-turn x (inr h) = h.1

-- ---- values

pub scaled-nought : (n : ℕ) → scaled n nought ≡ nil
unfolding scaled
scaled-nought n = refl

pub scaled-zero : (n : ℕ) (x : Triple) → x.0 ≡ 0 → scaled n x ≡ nil
unfolding scaled
scaled-zero n x e = ap (λ d. chosen omegas d (pos n +ℤ x.1) x.2) e

pub scaled-one : (n k : ℕ) (x : Triple) → x.0 ≡ 1 → pos n +ℤ x.1 ≡ pos k → scaled n x ≡ exact omegas k x.2
unfolding scaled
scaled-one n k x o e = ap₂ (λ d p. chosen omegas d p x.2) o e

exact-mod : (k i j : ℕ) → i % 8 ≡ j % 8 → exact omegas k i ≡ exact omegas k j
exact-mod k i j e = ap (◌⊗◌ (rpow omegas k)) (RingFacts.wpow-mod omega-laws i j e)

pub scaled-unit : (n k : ℕ) (p : ℤ) (m : ℕ) → pos n +ℤ p ≡ pos k → scaled n (unit p m) ≡ exact omegas k m
scaled-unit n k p m e = scaled-one n k (unit p m) refl e ∙ exact-mod k (m % 8) m (omega arith)

-- ---- turns and conjugates

powered-turn : (p : ℤ) (m k j : ℕ) → j % 8 ≡ (m + k) % 8 → powered omegas p j ≡ wpow omegas k ⊗ powered omegas p m
powered-turn (pos q) m k j e =
    ap (◌⊗◌ (rpow omegas q)) (RingFacts.wpow-mod omega-laws j (k + m) (omega arith) ∙ RingFacts.wpow-add omega-laws k m)
    ∙ CommFacts.times_left_comm omega-laws.comm (rpow omegas q) (wpow omegas k) (wpow omegas m)
powered-turn (negsuc q) m k j e = sym (CommFacts.times_nil omega-laws.comm (wpow omegas k))

-- a turn of k eighths is a product with ω^k
pub scaled-turn : (n d : ℕ) (p : ℤ) (m k j : ℕ) → j % 8 ≡ (m + k) % 8 → scaled n (d, p, j) ≡ wpow omegas k ⊗ scaled n (d, p, m)
unfolding scaled
scaled-turn n zero p m k j e = sym (CommFacts.times_nil omega-laws.comm (wpow omegas k))
scaled-turn n (suc d) p m k j e = powered-turn (pos n +ℤ p) m k j e

pub bar-wpow : (m j : ℕ) → (m + j) % 8 ≡ 0 → bar (wpow omegas m) ≡ wpow omegas j
unfolding omegas
bar-wpow m j e =
    sym (omega-laws.comm.times_one (bar (wpow omegas m)))
    ∙ ap (◌⊗◌ (bar (wpow omegas m))) (RingFacts.wpow-mod omega-laws 0 (m + j) (sym e) ∙ RingFacts.wpow-add omega-laws m j)
    ∙ sym (omega-laws.comm.times_assoc (bar (wpow omegas m)) (wpow omegas m) (wpow omegas j))
    ∙ ap (λ x. x ⊗ wpow omegas j) (conj-wpow int_laws m) ∙ CommFacts.one_times omega-laws.comm (wpow omegas j)

pub bar-nil : bar nil ≡ nil
unfolding omegas
bar-nil = refl

powered-bar : (p : ℤ) (m j : ℕ) → (m + j) % 8 ≡ 0 → bar (powered omegas p m) ≡ powered omegas p j
unfolding omegas
powered-bar (pos q) m j e = (conj-hom int_laws).times_to (rpow omegas q) (wpow omegas m) ∙ ap₂ ◌⊗◌ (conj-rpow q) (bar-wpow m j e)
powered-bar (negsuc q) m j e = bar-nil

-- the conjugate turns the other way
pub scaled-bar : (n d : ℕ) (p : ℤ) (m j : ℕ) → (m + j) % 8 ≡ 0 → bar (scaled n (d, p, m)) ≡ scaled n (d, p, j)
unfolding scaled
scaled-bar n zero p m j e = bar-nil
scaled-bar n (suc d) p m j e = powered-bar (pos n +ℤ p) m j e

pub scaled-mirrored : (n : ℕ) (x : Triple) → Kind x → scaled n (mirrored x) ≡ bar (scaled n x)
scaled-mirrored n x k = sym (scaled-bar n x.0 x.1 x.2 ((8 - x.2) % 8) (omega (arith, kind-turn x k)))

-- the conjugate of one scalar times another: the powers are added, and m + j eighths are l
pub scaled-product : (a b i k : ℕ) (p q : ℤ) (m l j : ℕ) → pos a +ℤ p ≡ pos i → pos b +ℤ q ≡ pos k → (m + j) % 8 ≡ l % 8
    → bar (scaled a (1, p, m)) ⊗ scaled b (1, q, l) ≡ exact omegas (i + k) j
scaled-product a b i k p q m l j ei ek e =
    ap₂ ◌⊗◌ (scaled-bar a 1 p m (7 * m) (omega arith) ∙ scaled-one a i (1, p, 7 * m) refl ei) (scaled-one b k (1, q, l) refl ek)
    ∙ RingFacts.exact-times omega-laws i (7 * m) k l ∙ exact-mod (i + k) (7 * m + l) j (omega arith)

-- ---- scalars are told apart

scaled-not-nil : (n : ℕ) (x : Triple) → Floor n x → x.0 ≡ 1 → scaled n x ≡ nil → ⊥
scaled-not-nil n x f o e = exact-not-nil (f o).0 x.2 (sym (scaled-one n (f o).0 x o (f o).1) ∙ e)

-- only 0 has the value 0
pub scaled-nil : (n : ℕ) (x : Triple) → Kind x → Floor n x → scaled n x ≡ nil → x.0 ≡ 0
scaled-nil n x (inl z) f e = ap (λ y. y.0) z
scaled-nil n x (inr h) f e = absurd (scaled-not-nil n x f h.0 e)

pub scaled-same : (n : ℕ) (x y : Triple) → Kind x → Kind y → Floor n x → Floor n y → scaled n x ≡ scaled n y → x ≡ y
scaled-same n x y (inl a) (inl b) f g e = a ∙ sym b
scaled-same n x y (inl a) (inr b) f g e = absurd (scaled-not-nil n y g b.0 (sym e ∙ ap (scaled n) a ∙ scaled-nought n))
scaled-same n x y (inr a) (inl b) f g e = absurd (scaled-not-nil n x f a.0 (e ∙ ap (scaled n) b ∙ scaled-nought n))
scaled-same n x y (inr a) (inr b) f g e =
    let i = f a.0 in
    let k = g b.0 in
    let h = exact_same i.0 x.2 k.0 y.2 (sym (scaled-one n i.0 x a.0 i.1) ∙ e ∙ scaled-one n k.0 y b.0 k.1) in
    let m : x.2 ≡ y.2 = sym (mod-eq_of_lt a.1) ∙ h.1 ∙ mod-eq_of_lt b.1 in
    triple (a.0 ∙ sym b.0) (powers n x.1 y.1 (i.1 ∙ ap pos h.0 ∙ sym k.1)) m
  where
    powers : (n : ℕ) (p q : ℤ) → pos n +ℤ p ≡ pos n +ℤ q → p ≡ q
    powers n p q e = omega (arith, ints)

    triple : x.0 ≡ y.0 → x.1 ≡ y.1 → x.2 ≡ y.2 → x ≡ y
    triple d p m = ap₂ (λ a b. (a, b, x.2)) d p ∙ ap (λ c. (y.0, y.1, c)) m
