-- The inner product of two states is the sum over the strings that they share, and their overlap is its exact value.
use Rattle.std.proofs.Common.{◌≡◌, ℕ, ◌+◌, ◌-◌, ◌%◌, ◌^◌, ◌<◌, ◌≤◌, eqb, ℤ, pos, ◌+ℤ◌, neg_ℤ, Some, None, Option, sym, refl, ap, ◌∙◌, subst, ap₂, inl, inr, arith}
use native.Mathlib.Decide.{ℕ_discrete}
use borrow.Author.Differences.{ints}
use lib.Count.{ones, ones-le}
use Rattle.std.proofs.lemmas.Bool.{ne_eqb, cond-false}
use Rattle.cyclotomic.specs.Adjoin.{Omega, omegas}
use Rattle.cyclotomic.specs.Exact.{scaled}
use Rattle.cyclotomic.specs.Ring.{wpow, rpow, exact}
use Rattle.cyclotomic.specs.Scalars.{Triple, Kind, triple_of, nought, embedded, chosen}
use Rattle.cyclotomic.specs.Sum.{sum_to}
use Rattle.cyclotomic.specs.CommFacts
use Rattle.cyclotomic.specs.declared.scalar.Scalar.{Scalar}
use Rattle.cyclotomic.proofs.Exact.{bar, bar-nil, Floor, scaled-nought, scaled-zero, scaled-one, scaled-product, scaled-nil}
use Rattle.cyclotomic.proofs.Exact.{scalar-kind, kind-turn}
use Rattle.cyclotomic.proofs.Ints.{omega-laws}
use Rattle.cyclotomic.proofs.RingFacts
use Rattle.cyclotomic.proofs.Sums
use Rattle.quadratic.specs.Phase.{phase, less}
use Rattle.quadratic.specs.Strings.{Member, Under}
use Rattle.quadratic.specs.Sums.{total, Bounded, term_of}
use Rattle.quadratic.specs.Value.{value_at}
use Rattle.quadratic.specs.declared.intersection.Intersection.{Intersection}
use Rattle.quadratic.proofs.Cases.{by_space, of_space}
use Rattle.quadratic.specs.declared.phased.PhasedSpace.{PhasedSpace}
use Rattle.quadratic.proofs.Enumerate.{sum-strings}
use Rattle.quadratic.proofs.Phases.{phase-in}
use Rattle.quadratic.proofs.Same.{has-phase}
use Rattle.quadratic.proofs.Subset.{dimension-le, inside_under}
use Rattle.stabilizer.specs.Overlaps.{sizes_number, phase_inside, Intersects, Roomy, depth, lowered_by, lowered}
use Rattle.stabilizer.specs.Overlaps.{IsOverlap, Orthogonal, Overlaps}
use Rattle.stabilizer.specs.States.{amplitude_of}
use Rattle.stabilizer.specs.Vectors.{entry, inner}
use Rattle.stabilizer.specs.declared.state.StabilizerState.{StabilizerState}
use Rattle.stabilizer.proofs.Symmetry.{is-swapped}
use Rattle.quadratic.proofs.Extent.{phase-lt}

infixl 70 ◌⊗◌
open omegas use {nil, times as ◌⊗◌}

-- ---- one string

pub depth_le : (s : StabilizerState) → depth s ≤ 4144
depth_le s = let l = ones-le 48 s.body.space.pivots s.body.space.within in let k = s.light in omega (arith, l, k)

-- n with d taken away
pub below : (n d : ℕ) → d ≤ n → pos n +ℤ neg_ℤ (pos d) ≡ pos (n - d)
below n d l = omega (arith, ints)

module _ (t s : StabilizerState) where
  -- the power of √2 in every product of entries that is not 0
  pub common : ℕ
  common = (4144 - depth t) + (4144 - depth s)

  nothing : (x : Omega) → nil ⊗ x ≡ rpow omegas common ⊗ nil
  nothing x = CommFacts.nil_times omega-laws.comm x ∙ sym (CommFacts.times_nil omega-laws.comm (rpow omegas common))

  -- the product of entries turns by the difference of the phases
  product : (a b : Option ℕ) → ((m : ℕ) → b ≡ Some m → m < 8)
      → bar (scaled 4144 (amplitude_of t b)) ⊗ scaled 4144 (amplitude_of s a) ≡ rpow omegas common ⊗ term_of omegas (less a b)
  unfolding common
  product (Some m) (Some k) h =
      scaled-product 4144 4144 (4144 - depth t) (4144 - depth s) (neg_ℤ (pos (depth t))) (neg_ℤ (pos (depth s)))
      (k % 8) (m % 8) ((m + (8 - k)) % 8)
      (below 4144 (depth t) (depth_le t)) (below 4144 (depth s) (depth_le s)) (around m k (h k refl))
    where
      around : (m k : ℕ) → k < 8 → (k % 8 + (m + (8 - k)) % 8) % 8 ≡ m % 8 % 8
      around m k l = omega arith
  product (Some m) None h = ap (λ x. bar x ⊗ scaled 4144 (amplitude_of s (Some m))) (scaled-nought 4144)
      ∙ ap (λ x. x ⊗ scaled 4144 (amplitude_of s (Some m))) bar-nil ∙ nothing (scaled 4144 (amplitude_of s (Some m)))
  product None b h = ap (λ x. bar (scaled 4144 (amplitude_of t b)) ⊗ x) (scaled-nought 4144)
      ∙ CommFacts.times_comm omega-laws.comm (bar (scaled 4144 (amplitude_of t b))) nil ∙ nothing (bar (scaled 4144 (amplitude_of t b)))

  -- ---- all strings

  less_both : (a b : Option ℕ) (v : ℕ) → less a b ≡ Some v → ((m : ℕ) × (a ≡ Some m)) × ((m : ℕ) × (b ≡ Some m))
  less_both (Some m) (Some k) v e = ((m, refl), (k, refl))
  less_both (Some m) None v e = let z : ◌≡◌ {A = ℕ} 0 1 = cc in absurd (omega arith)
  less_both None b v e = let z : ◌≡◌ {A = ℕ} 0 1 = cc in absurd (omega arith)

  module _ (m : PhasedSpace) (shared : Intersects (of_space m) t s) where
    -- a string of the intersection is a string of both
    in_both : (y : ℕ) → Member m.space y → Member s.body.space y × Member t.body.space y
    in_both y i =
        let (a, b) = less_both (phase s.body y) (phase t.body y) (value_at m.form y) (sym (shared y) ∙ phase-in m y i) in
        (has-phase s.body y a.0 a.1, has-phase t.body y b.0 b.1)

    below-s : ones m.space.pivots ≤ ones s.body.space.pivots
    below-s = dimension-le m.space s.body.space (λ y i. (in_both y i).0)

    below-t : ones m.space.pivots ≤ ones t.body.space.pivots
    below-t = dimension-le m.space t.body.space (λ y i. (in_both y i).1)

    under : Under m.space s.qubits
    under = inside_under m.space s.body.space (λ y i. (in_both y i).0) s.qubits (s.inside, s.near)

  total-is : (both : Intersection) → Intersects both t s → sum_to omegas (λ y. term_of omegas (phase_inside both y)) (2 ^ s.qubits)
      ≡ total omegas both
  total-is =
      by_space (λ both. Intersects both t s → sum_to omegas (λ y. term_of omegas (phase_inside both y)) (2 ^ s.qubits) ≡ total omegas both)
      (λ shared. Sums.sum-nil omega-laws.comm (λ y. nil) (2 ^ s.qubits) (λ y l. refl))
      (λ m shared. sym (sum-strings omega-laws.comm m s.qubits (under m shared)))

  -- the inner product is a power of √2 times the exponential sum
  inner-is : (both : Intersection) → t.qubits ≡ s.qubits → Intersects both t s
      → inner t.qubits (entry t) (entry s) ≡ rpow omegas common ⊗ total omegas both
  inner-is both q shared =
      ap (λ n. inner n (entry t) (entry s)) q
      ∙ Sums.sum_same omega-laws.comm _ _ (2 ^ s.qubits) (λ y l.
      product (phase s.body y) (phase t.body y) (phase-lt t.body y)
      ∙ ap (λ p. rpow omegas common ⊗ term_of omegas p) (sym (shared y)))
      ∙ Sums.sum-times omega-laws.comm (rpow omegas common) (λ y. term_of omegas (phase_inside both y)) (2 ^ s.qubits)
      ∙ ap (◌⊗◌ (rpow omegas common)) (total-is both shared)

-- ---- the overlap

-- two exponents of √2 added
powers : (c p m : ℕ) → rpow omegas c ⊗ exact omegas p m ≡ exact omegas (c + p) m
powers c p m = sym (omega-laws.comm.times_assoc (rpow omegas c) (rpow omegas p) (wpow omegas m))
    ∙ ap (λ x. x ⊗ wpow omegas m) (sym (RingFacts.rpow-add omega-laws c p))

lifted : (a b p : ℕ) → a ≤ 4144 → b ≤ 4144 → pos 8288 +ℤ (pos p +ℤ neg_ℤ (pos (a + b))) ≡ pos (((4144 - a) + (4144 - b)) + p)
lifted a b p i j = omega (arith, ints)

lowest : (d p : ℕ) → p ≤ d → pos p +ℤ neg_ℤ (pos d) ≡ neg_ℤ (pos (d - p))
lowest d p l = omega (arith, ints)

module _ (t s : StabilizerState) where
  -- an exponential sum that is not 0 has a power between those of the states
  sum-range : (both : Intersection) (sum : Scalar) → Intersects both t s → Roomy both t s → Bounded both sum → (triple_of sum).0 ≡ 1
      → (p : ℕ) × ((triple_of sum).1 ≡ pos p) × (p ≤ depth t + depth s) × (depth t + depth s ≤ p + 8240)
  sum-range both sum =
      by_space (λ both. Intersects both t s → Roomy both t s → Bounded both sum → (triple_of sum).0 ≡ 1
      → (p : ℕ) × ((triple_of sum).1 ≡ pos p) × (p ≤ depth t + depth s) × (depth t + depth s ≤ p + 8240))
      (λ shared roomy b one. let z = ap (λ x. x.0) b in absurd (omega (arith, z, one)))
      (λ m shared roomy b one.
      let (p, e, least, most) = b one in
      let k = below-s t s m shared in
      let l = below-t t s m shared in (
        p,
        e,
        omega (arith, most, k, l),
        omega (arith, least, roomy, t.light, s.light, s.few),
      ))
      both

  module _ (both : Intersection) (q : t.qubits ≡ s.qubits) (shared : Intersects both t s) (sum : Scalar)
      (value : embedded omegas (triple_of sum) ≡ total omegas both) where
    product_is : (x : Omega) → embedded omegas (triple_of sum) ≡ x → inner t.qubits (entry t) (entry s) ≡ rpow omegas (common t s) ⊗ x
    product_is x e = inner-is t s both q shared ∙ ap (◌⊗◌ (rpow omegas (common t s))) (sym value ∙ e)

    zero_is : (triple_of sum).0 ≡ 0 → IsOverlap t s nought
    zero_is z = record {
      kind = inl refl;
      range = λ o. absurd (omega (arith, o));
      exact = scaled-nought 8288 ∙ sym (product_is nil (ap (λ d. chosen omegas d (triple_of sum).1 (triple_of sum).2) z)
          ∙ CommFacts.times_nil omega-laws.comm (rpow omegas (common t s)));
    }

    unit-is : (p : ℕ) → (triple_of sum).0 ≡ 1 → (triple_of sum).1 ≡ pos p → p ≤ depth t + depth s → depth t + depth s ≤ p + 8240
        → IsOverlap t s (1, pos p +ℤ neg_ℤ (pos (depth t + depth s)), (triple_of sum).2)
    unfolding common
    unit-is p one e l h =
        let turn = (triple_of sum).2 in
        record {
          kind = inr (refl, kind-turn (triple_of sum) (scalar-kind sum));
          range = λ o. (depth t + depth s - p, lowest (depth t + depth s) p l, omega (arith, h));
          exact = scaled-one 8288 (common t s + p) (1, pos p +ℤ neg_ℤ (pos (depth t + depth s)), turn) refl
              (lifted (depth t) (depth s) p (depth_le t) (depth_le s))
              ∙ sym (product_is (exact omegas p turn) (ap₂ (λ d k. chosen omegas d k turn) one e)
              ∙ powers (common t s) p turn);
        }

    -- the exponential sum with the powers of both states is the overlap
    overlap-is : Roomy both t s → Bounded both sum → IsOverlap t s (lowered (triple_of sum) (depth t + depth s))
    overlap-is roomy b = go (scalar-kind sum)
      where
        go : Kind (triple_of sum) → IsOverlap t s (lowered (triple_of sum) (depth t + depth s))
        go (inl z) = subst (λ x. IsOverlap t s (lowered x (depth t + depth s))) (sym z) (zero_is (ap (λ x. x.0) z))
        go (inr one) =
            let (p, e, l, h) = sum-range both sum shared roomy b one.0 in
            let to = λ (d : ℕ) (k : ℤ). lowered_by d k (triple_of sum).2 (depth t + depth s) in
            subst (λ d. IsOverlap t s (to d (triple_of sum).1)) (sym one.0)
            (subst (λ k. IsOverlap t s (to 1 k)) (sym e) (unit-is p one.0 e l h))

  module _ (x : Triple) (is : IsOverlap t s x) where
    floor : Floor 8288 x
    floor o = let (a, e, l) = is.range o in (8288 - a, ap (◌+ℤ◌ (pos 8288)) e ∙ below 8288 a (omega (arith, l)))

    overlap-vanishes : x.0 ≡ 0 → Orthogonal t s
    overlap-vanishes z = sym is.exact ∙ scaled-zero 8288 x z

    overlap-orthogonal : Orthogonal t s → x.0 ≡ 0
    overlap-orthogonal o = scaled-nil 8288 x is.kind floor (is.exact ∙ o)

  sizes-same : 0 ≡ sizes_number t s → t.qubits ≡ s.qubits
  sizes-same e =
      elim (ℕ_discrete t.qubits s.qubits) [
        | yes q ↦ q
        | no ne ↦
            let z = cond-false {A = ℕ} (eqb t.qubits s.qubits) 0 23 (ne_eqb t.qubits s.qubits ne) in
            absurd (omega (arith, e, z))
      ]

  pub overlaps : (both : Intersection) (sum x : Scalar) → 0 ≡ sizes_number t s → Intersects both t s → Roomy both t s
      → Bounded both sum → embedded omegas (triple_of sum) ≡ total omegas both
      → triple_of x ≡ lowered (triple_of sum) (depth t + depth s) → Overlaps x t s
  overlaps both sum x n shared roomy bounds value e =
      let is = subst (IsOverlap t s) (sym e) (overlap-is both (sizes-same n) shared sum value roomy bounds) in
      record {
        is = is;
        swapped = is-swapped t s (triple_of x) (sizes-same n) is;
        vanishes = overlap-vanishes (triple_of x) is;
        orthogonal = overlap-orthogonal (triple_of x) is;
        both = both;
        shared = shared;
        sum = sum;
        exact = value;
        value = e;
      }
