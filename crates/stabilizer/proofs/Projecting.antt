-- The four ways of a projection: the operator's factor at each string, and what it adds up to.
use Rattle.std.proofs.Common.{◌≡◌, ℕ, ◌+◌, ◌*◌, ◌%◌, ◌^◌, ◌<◌, Bool, true, false, ◌⊎◌, Some, None, Option, sym, ap, ◌∙◌, ap₂, inl, inr, zero-add, arith}
use native.Mathlib.Decide.{ℕ_discrete}
use lib.Bits.{bit_xor}
use lib.Count.{ones}
use Rattle.std.proofs.lemmas.Bool.{eq-eqb, ne_eqb, cond-true, cond-false}
use Rattle.cyclotomic.specs.Adjoin.{Omega, omegas}
use Rattle.cyclotomic.specs.CommFacts
use Rattle.cyclotomic.specs.Ring.{CommLaws, two, wpow, root, rpow}
use Rattle.cyclotomic.proofs.Ints.{omega-laws}
use Rattle.cyclotomic.proofs.RingFacts
use Rattle.quadratic.specs.Bits.{dot}
use Rattle.quadratic.specs.Moves.{turn, Kept, Outside, Along, Grown}
use Rattle.quadratic.specs.Phase.{phase}
use Rattle.quadratic.specs.Strings.{Member}
use Rattle.quadratic.specs.declared.affine.Outcome.{Outcome}
use Rattle.quadratic.specs.declared.affine.Outcome.TheVariants.{Unchanged, Empty, Restricted}
use Rattle.quadratic.specs.declared.phased.PhasedSpace.{PhasedSpace}
use Rattle.quadratic.proofs.Dots.{dot-lt}
use Rattle.quadratic.proofs.Laws.{shift_in}
use Rattle.quadratic.proofs.Linear.{back}
use Rattle.quadratic.proofs.Phases.{phase-out, in-or-out}
use Rattle.quadratic.proofs.Turning.{turn_twice}
use Rattle.stabilizer.specs.Projections.{term, operated, sum_at, Summed, Effected}
use Rattle.stabilizer.specs.declared.pauli.PauliMasks.{PauliMasks}

infixl 65 ◌⊕◌
infixl 70 ◌⊗◌
open omegas use {nil, one, w, plus as ◌⊕◌, times as ◌⊗◌}

abbrev pub laws : CommLaws omegas
laws = omega-laws.comm

pub squared : rpow omegas 2 ≡ two omegas
squared = ap (◌⊗◌ (root omegas)) (laws.times_one (root omegas)) ∙ RingFacts.root-square omega-laws

pub term-turn : (k : ℕ) (a : Option ℕ) → term (turn k a) ≡ wpow omegas k ⊗ term a
term-turn k (Some m) = RingFacts.wpow-mod omega-laws ((m + k) % 8) (k + m) (omega arith) ∙ RingFacts.wpow-add omega-laws k m
term-turn k None = sym (CommFacts.times_nil laws _)

-- ---- along a combination of rows the operator multiplies by a power of i

module _ (m : PauliMasks) (s : PhasedSpace) (a q l : ℕ) (law : Along s m.flips m.signs a l) (e : q ≡ (m.quarters % 4 + a) % 4) where
  -- the sum at y is a multiple of what stands there
  pub factor : (y : ℕ) → sum_at m s y ≡ (one ⊕ wpow omegas (2 * q + 4 * dot l y)) ⊗ term (phase s y)
  factor y =
      let b = dot m.signs (bit_xor y m.flips) in
      let p = phase s (bit_xor y m.flips) in
      ap (◌⊕◌ (term (phase s y))) (split m.quarters b p ∙ ap (◌⊗◌ _) (ap term (law y)) ∙ ap (◌⊗◌ _) (term-turn _ (phase s y))
      ∙ sym (laws.times_assoc _ _ _) ∙ ap (λ x. x ⊗ term (phase s y)) (sym (RingFacts.wpow-add omega-laws _ _)
      ∙ RingFacts.wpow-mod omega-laws (2 * m.quarters + (2 * a + 4 * dot l y)) (2 * q + 4 * dot l y)
      (eighths m.quarters a q (dot l y) e)))
      ∙ ap (λ x. x ⊕ wpow omegas (2 * q + 4 * dot l y) ⊗ term (phase s y)) (sym (CommFacts.one_times laws _))
      ∙ sym (CommFacts.plus_times laws _ _ _)
    where
      eighths : (x a q d : ℕ) → q ≡ (x % 4 + a) % 4 → (2 * x + (2 * a + 4 * d)) % 8 ≡ (2 * q + 4 * d) % 8
      eighths x a q d e = omega arith

      split : (x b : ℕ) (p : Option ℕ) → term (turn (2 * x + 4 * b) p) ≡ wpow omegas (2 * x) ⊗ term (turn (4 * b) p)
      split x b p =
          term-turn (2 * x + 4 * b) p ∙ ap (λ z. z ⊗ term p) (RingFacts.wpow-add omega-laws (2 * x) (4 * b)) ∙ laws.times_assoc _ _ _
          ∙ ap (◌⊗◌ _) (sym (term-turn (4 * b) p))

  -- ---- by 1 or -1: the strings with one parity stay

  module _ (b : ℕ) (small : b < 2) (f : q ≡ 2 * b) where
    twice : (y : ℕ) → dot l y ≡ b → sum_at m s y ≡ two omegas ⊗ term (phase s y)
    twice y h = factor y ∙ ap (λ x. (one ⊕ x) ⊗ term (phase s y)) (RingFacts.wpow-mod omega-laws (2 * q + 4 * dot l y) 0 (omega arith))

    none : (y : ℕ) → (dot l y ≡ b → ⊥) → sum_at m s y ≡ nil
    none y ne =
        factor y
        ∙ ap (λ x. (one ⊕ x) ⊗ term (phase s y))
        (RingFacts.wpow-mod omega-laws (2 * q + 4 * dot l y) 4 (odd q b (dot l y) f small (dot-lt l y) ne))
        ∙ ap (λ x. x ⊗ term (phase s y)) (RingFacts.one-four omega-laws) ∙ CommFacts.nil_times laws _
      where
        odd : (q b d : ℕ) → q ≡ 2 * b → b < 2 → d < 2 → (d ≡ b → ⊥) → (2 * q + 4 * d) % 8 ≡ 4 % 8
        odd q b d f hb hd ne = omega arith

    -- where there is no string, there is no sum
    empty : (y : ℕ) → (Member s.space y → ⊥) → (x : Omega) → sum_at m s y ≡ x ⊗ term (phase s y)
    empty y out x =
        let z = ap term (phase-out s y out) in
        factor y ∙ ap (◌⊗◌ _) z ∙ CommFacts.times_nil laws _ ∙ sym (ap (◌⊗◌ x) z ∙ CommFacts.times_nil laws x)

    pub restricted : (o : Outcome) (s' : PhasedSpace) → Kept o s s' l b → Effected o m s s'
    restricted Unchanged s' h = (
      h.0,
      λ y. elim (in-or-out s y) [ inl i ↦ twice y (h.1 y i) | inr out ↦ empty y out (two omegas) ],
    )
    restricted Empty s' h = (
      h.0,
      λ y. elim (in-or-out s y) [ inl i ↦ none y (h.1 y i) | inr out ↦ empty y out nil ∙ CommFacts.nil_times laws _ ],
    )
    restricted Restricted s' h = record {
      root = 2;
      balance = let r = h.rows in omega arith;
      sums = λ y. elim (ℕ_discrete (dot l y) b) [
        | yes e ↦ twice y e ∙ ap₂ ◌⊗◌ (sym squared) (ap term (sym (h.phases y ∙ cond-true _ (phase s y) None (eq-eqb (dot l y) b e))))
        | no ne ↦ none y ne ∙ sym (ap (◌⊗◌ _) (ap term (h.phases y ∙ cond-false _ (phase s y) None (ne_eqb (dot l y) b ne)))
            ∙ CommFacts.times_nil laws _)
      ];
    }

  -- ---- by i or -i: every phase turns by an eighth

  pub rotated : (d j g : ℕ) (s' : PhasedSpace) → q ≡ 1 + 2 * d → s'.space ≡ s.space
      → ((δ : ℕ) → δ < 2 → (j + 2 * g * δ) % 8 ≡ (1 + 6 * ((d + δ) * (d + δ))) % 8)
      → ((y : ℕ) → phase s' y ≡ turn (2 * g * dot l y) (turn j (phase s y))) → Summed m s s'
  rotated d j g s' f h turns i = record {
    root = 1;
    balance = ap (λ x. ones x.pivots + 1) h;
    sums = λ y.
        let δ = d + dot l y in
        let x = 1 + 6 * (δ * δ) in
        factor y
        ∙ ap (λ z. (one ⊕ wpow omegas z) ⊗ term (phase s y)) (power q d (dot l y) f)
        ∙ ap (λ z. z ⊗ term (phase s y)) (RingFacts.odd_base omega-laws δ 0 ∙ ap (λ z. root omegas ⊗ wpow omegas z) (zero-add x))
        ∙ laws.times_assoc (root omegas) (wpow omegas x) (term (phase s y))
        ∙ ap₂ ◌⊗◌ (sym (laws.times_one (root omegas)))
        (sym (ap term (i y ∙ turn_twice j (2 * g * dot l y) x (phase s y) (λ p. both p j (2 * g * dot l y) x (turns (dot l y)
        (dot-lt l y))))
        ∙ term-turn x (phase s y)));
  }
    where
      power : (q d δ : ℕ) → q ≡ 1 + 2 * d → 2 * q + 4 * δ ≡ 0 + (2 + 4 * (d + δ))
      power q d δ e = omega arith

      both : (p j k x : ℕ) → (j + k) % 8 ≡ x % 8 → ((p + j) % 8 + k) % 8 ≡ (p + x) % 8
      both p j k x e = omega arith

-- ---- outside the rows the strings double

pub grown : (m : PauliMasks) (s s' : PhasedSpace) (r : Bool) → m.flips < 2 ^ 48 → Outside s m.flips
    → Grown r s s' m.flips m.quarters m.signs → Summed m s s'
grown m s s' true l out h = record {
  root = 0;
  balance = let r = h.rows in omega arith;
  sums = λ y. at y (in-or-out s y) (in-or-out s (bit_xor y m.flips)) ∙ sym (CommFacts.one_times laws _);
}
  where
    f : ℕ
    f = m.flips

    at : (y : ℕ) → Member s.space y ⊎ (Member s.space y → ⊥) → Member s.space (bit_xor y f) ⊎ (Member s.space (bit_xor y f) → ⊥)
        → sum_at m s y ≡ term (phase s' y)
    at y (inl i) (inl k) = absurd (out y i k)
    at y (inl i) (inr k) =
        ap (λ p. term (phase s y) ⊕ term (turn (2 * m.quarters + 4 * dot m.signs (bit_xor y f)) p)) (phase-out s (bit_xor y f) k)
        ∙ laws.plus_nil _ ∙ ap term (sym (h.old y i))
    at y (inr i) (inl k) =
        ap (λ p. term p ⊕ term (operated m s y)) (phase-out s y i) ∙ CommFacts.nil_plus laws _
        ∙ ap term (sym (h.new (bit_xor y f) k) ∙ ap (phase s') (back y f))
    at y (inr i) (inr k) =
        ap₂ (λ p r. term p ⊕ term (turn (2 * m.quarters + 4 * dot m.signs (bit_xor y f)) r)) (phase-out s y i)
        (phase-out s (bit_xor y f) k)
        ∙ laws.plus_nil _
        ∙ ap term (sym (h.none y i k))
grown m s s' false l out h = absurd (out s.space.shift (shift_in s.space) (h.1 l s.space.shift (shift_in s.space)))
