-- Sums of forms of at most two variables, term by term, in any ring.
use Rattle.std.proofs.Common.{◌≡◌, ℕ, suc, ◌+◌, ◌%◌, ◌^◌, Some, None, Option, sym, refl, ap, ◌∙◌, ap₂, arith}
use lib.IntN.{+ℤ_idl}
use Rattle.cyclotomic.specs.Adjoin.{omegas}
use Rattle.cyclotomic.specs.Exact.{scaled, Floor}
use Rattle.cyclotomic.specs.Ring.{Ops, wpow}
use Rattle.cyclotomic.specs.Scalars.{Triple, triple_of, Kind, embedded, chosen}
use Rattle.cyclotomic.specs.Sum.{sum_to}
use Rattle.cyclotomic.specs.declared.scalar.Scalar.{Scalar}
use Rattle.cyclotomic.proofs.Exact.{scalar-kind, scaled-same}
use Rattle.quadratic.specs.Fields.{coefficient_at, coupling_between, found, found_both, row_pivot}
use Rattle.quadratic.specs.Numbering.{spread}
use Rattle.quadratic.specs.Sums.{Bounded, total, term_at}
use Rattle.quadratic.specs.Value.{value_at}
use Rattle.quadratic.specs.declared.intersection.Intersection.{Intersection}
use Rattle.quadratic.proofs.Cases.{by_space}
use Rattle.quadratic.specs.declared.phased.PhasedSpace.{PhasedSpace}
use Rattle.archive.proofs.Coefficients.{value-zero, value-one, value-two}
use Rattle.quadratic.specs.Sums.{IsSum}
use Rattle.worked.specs.Worked.{NoVariable, OneVariable, Coupled}
use Rattle.worked.proofs.Places.{some, none, spread-zero, spread_row, spread-both, place-below}

-- what was found stands at a position
found_at : (o : Option ℕ) (f : ℕ → ℕ) (v : ℕ) → found o f ≡ Some v → (p : ℕ) × (o ≡ Some p) × (f p ≡ v)
found_at (Some p) f v e = (p, refl, some e)
found_at None f v e = none e

module _ {R : Type 0} (o : Ops R) (s : PhasedSpace) where
  -- the first strings, each with its value
  abbrev at : ℕ → ℕ
  at c = value_at s.form (spread 48 s.space.pivots c)

  value-first : at 0 ≡ s.form.phase
  value-first = ap (value_at s.form) (spread-zero 48 s.space.pivots) ∙ value-zero s.form

  value_row : (j p : ℕ) → row_pivot s (suc j) ≡ Some p → at (2 ^ j) ≡ (s.form.phase + coefficient_at s p) % 8
  value_row j p e = ap (value_at s.form) (spread_row 48 s.space.pivots j p e)
      ∙ value-one s.form p (place-below 48 s.space.pivots (suc j) p e)

  value-rows : (p q : ℕ) → row_pivot s 1 ≡ Some p → row_pivot s 2 ≡ Some q
      → at 3 ≡ (s.form.phase + coefficient_at s q + (coefficient_at s p + coupling_between s p q)) % 8
  value-rows p q e f =
      let h = spread-both 48 s.space.pivots p q e f in
      ap (value_at s.form) h.0 ∙ value-two s.form p q (place-below 48 s.space.pivots 1 p e) h.1

-- w^a + w^b + w^c + w^d
abbrev pub two-terms : {R : Type 0} → Ops R → ℕ → ℕ → R
two-terms o a b = o.plus (o.plus o.nil (wpow o a)) (wpow o b)

abbrev pub four-terms : {R : Type 0} → Ops R → ℕ → ℕ → ℕ → ℕ → R
four-terms o a b c d = o.plus (o.plus (two-terms o a b) (wpow o c)) (wpow o d)

module _ {R : Type 0} (o : Ops R) where
  pub total-point : (x : Intersection) (Q : ℕ) → NoVariable x Q → total o x ≡ o.plus o.nil (wpow o Q)
  total-point x Q =
      by_space (λ x. NoVariable x Q → total o x ≡ o.plus o.nil (wpow o Q)) (λ h. none h.dimension)
      (λ s h.
      ap (λ d. sum_to o (term_at o s) (2 ^ d)) (some h.dimension)
      ∙ ap (λ v. o.plus o.nil (wpow o v)) (value-first o s ∙ some h.phase))
      x

  pub total-one : (x : Intersection) (Q D : ℕ) → OneVariable x Q D → total o x ≡ two-terms o Q ((Q + D) % 8)
  total-one x Q D =
      by_space (λ x. OneVariable x Q D → total o x ≡ two-terms o Q ((Q + D) % 8)) (λ h. none h.dimension)
      (λ s h.
      let (p, e, l) = found_at (row_pivot s 1) (coefficient_at s) D h.linear in
      ap (λ d. sum_to o (term_at o s) (2 ^ d)) (some h.dimension)
      ∙ ap₂ (two-terms o) (value-first o s ∙ some h.phase) (value_row o s 0 p e ∙ ap₂ (λ a b. (a + b) % 8) (some h.phase) l))
      x

  pub total-two : (x : Intersection) (Q D E : ℕ) → Coupled x Q D E
      → total o x ≡ four-terms o Q ((Q + D) % 8) ((Q + E) % 8) ((Q + E + (D + 4)) % 8)
  total-two x Q D E =
      by_space (λ x. Coupled x Q D E → total o x ≡ four-terms o Q ((Q + D) % 8) ((Q + E) % 8) ((Q + E + (D + 4)) % 8))
      (λ h. none h.dimension)
      (λ s h.
      let (p, e, l) = found_at (row_pivot s 1) (coefficient_at s) D h.first in
      let (q, f, m) = found_at (row_pivot s 2) (coefficient_at s) E h.second in
      let k = some (ap₂ (λ a b. found_both a b (coupling_between s)) (sym e) (sym f) ∙ h.coupling) in
      let phase = some h.phase in
      ap (λ d. sum_to o (term_at o s) (2 ^ d)) (some h.dimension)
      ∙ ap₂ (λ a b. four-terms o a b (at o s 2) (at o s 3)) (value-first o s ∙ phase)
      (value_row o s 0 p e ∙ ap₂ (λ a b. (a + b) % 8) phase l)
      ∙ ap₂ (four-terms o Q ((Q + D) % 8)) (value_row o s 1 q f ∙ ap₂ (λ a b. (a + b) % 8) phase m)
      (value-rows o s p q e f ∙ ap₂ (λ a b. (a + b) % 8) (ap₂ ◌+◌ phase m) (ap₂ ◌+◌ l k)))
      x

-- the value of a scalar whose power is not negative determines the scalar
pub value-known : (r : Scalar) (y : Triple) → Floor 0 (triple_of r) → Kind y → Floor 0 y → embedded omegas (triple_of r) ≡ embedded omegas y
    → triple_of r ≡ y
unfolding scaled
value-known r y g k f e = scaled-same 0 (triple_of r) y (scalar-kind r) k g f (plain (triple_of r) ∙ e ∙ sym (plain y))
  where
    plain : (y : Triple) → scaled 0 y ≡ embedded omegas y
    plain y = ap (λ p. chosen omegas y.0 p y.2) (+ℤ_idl y.1)

pub sum-known : (x : Intersection) (r : Scalar) (y : Triple) → IsSum x r → Kind y → Floor 0 y → embedded omegas y ≡ total omegas x
    → triple_of r ≡ y
sum-known x r y h k f e = value-known r y (floor x h.bounds) k f (h.exact ∙ sym e)
  where
    floor : (x : Intersection) → Bounded x r → Floor 0 (triple_of r)
    floor =
        by_space (λ x. Bounded x r → Floor 0 (triple_of r)) (λ b o. let z = ap (λ t. t.0) b in absurd (omega arith))
        (λ s b o. let h = b o in (h.0, +ℤ_idl (triple_of r).1 ∙ h.1))
