-- Phased spaces with the same phases have the same strings and forms with the same values.
use Rattle.std.proofs.Common.{◌≡◌, ℕ, Some, Option, length, ◌==◌, ◌&&◌, Bool, true, false, sym, refl, ap, ◌∙◌, arith}
use Rattle.std.proofs.lemmas.Grind.{same_number_lists}
use Rattle.std.specs.Cmp.Lexicographic.{pointwise, same_text}
use Rattle.std.proofs.lemmas.Bool.{eqb-true}
use native.Mathlib.Decide.{ℕ_discrete}
use lib.Bits.{bit_and, bit_xor}
use Rattle.quadratic.specs.Echelon.{row, combination, reduced}
use Rattle.quadratic.specs.Phase.{phase, SamePhases}
use Rattle.quadratic.specs.Strings.{Member}
use Rattle.quadratic.specs.Value.{value_at}
use Rattle.quadratic.specs.declared.phased.PhasedSpace.{PhasedSpace}
use Rattle.quadratic.proofs.Laws.{facts, holds, member, coordinate, and-twice}
use Rattle.quadratic.proofs.Distinct.{SameStrings, pivots-same, row_same, shift_same}
use Rattle.quadratic.proofs.Unique.{same-form}
use Rattle.quadratic.proofs.Phases.{phase-in, phase-out}

-- a string with a phase is in the space
pub has-phase : (s : PhasedSpace) (y m : ℕ) → phase s y ≡ Some m → Member s.space y
has-phase s y m e =
    elim (ℕ_discrete (reduced s.space.pivots (row s.space.rows) y) s.space.shift) [
      | yes i ↦ member s.space y i
      | no ne ↦
          let out = phase-out s y (λ k. ne (holds s.space y k)) in
          let z : ◌≡◌ {A = ℕ} 0 1 = cc in absurd (omega arith)
    ]

same-members : (s t : PhasedSpace) → SamePhases s t → (y : ℕ) → Member s.space y → Member t.space y
same-members s t h y m = has-phase t y (value_at s.form y) (sym (h y) ∙ phase-in s y m)

pub same-strings : (s t : PhasedSpace) → SamePhases s t → SameStrings s.space t.space
same-strings s t h = (same-members s t h, same-members t s (λ y. sym (h y)))

-- at the string with the coordinates of c the form has its value at c
pub same-values : (s t : PhasedSpace) → SamePhases s t → s.space.pivots ≡ t.space.pivots → (c : ℕ)
    → value_at s.form c ≡ value_at t.form c
same-values s t h e c =
    let P = s.space.pivots in
    let k = bit_and c P in
    let y = bit_xor s.space.shift (combination (row s.space.rows) k) in
    let own : Member s.space y = (k, refl) in
    let at : bit_and y P ≡ k = coordinate P (row s.space.rows) s.space.shift (facts s.space) k (and-twice c P) in
    let value : value_at s.form y ≡ value_at t.form y =
    some (sym (phase-in s y own) ∙ h y ∙ phase-in t y (same-members s t h y own)) in
    s.idle c ∙ ap (value_at s.form) (sym at) ∙ sym (s.idle y) ∙ value ∙ t.idle y
    ∙ ap (value_at t.form) (ap (bit_and y) (sym e) ∙ at ∙ ap (bit_and c) e) ∙ sym (t.idle c)
  where
    some : {a b : ℕ} → ◌≡◌ {A = Option ℕ} (Some a) (Some b) → a ≡ b
    some e = cc

-- and the converse
pub same-phases : (s t : PhasedSpace) → SameStrings s.space t.space → ((c : ℕ) → value_at s.form c ≡ value_at t.form c)
    → SamePhases s t
same-phases s t strings values y =
    elim (ℕ_discrete (reduced s.space.pivots (row s.space.rows) y) s.space.shift) [
      | yes i ↦
          let m = member s.space y i in
          phase-in s y m ∙ ap (λ v. Some v) (values y) ∙ sym (phase-in t y (strings.0 y m))
      | no ne ↦ phase-out s y (λ m. ne (holds s.space y m)) ∙ sym (phase-out t y (λ m. ne (holds s.space y (strings.1 y m))))
    ]

-- the words and tables of two spaces are the same
pub record Alike (s t : PhasedSpace) : Type 0 where
  pub pivots : s.space.pivots ≡ t.space.pivots
  pub rows : s.space.rows ≡ t.space.rows
  pub shift : s.space.shift ≡ t.space.shift
  pub phase : s.form.phase ≡ t.form.phase
  pub odd : s.form.odd ≡ t.form.odd
  pub neg : s.form.neg ≡ t.form.neg
  pub coupling : s.form.coupling ≡ t.form.coupling

-- what the derived test compares
pub told : (s t : PhasedSpace)
    → (((s.space.pivots == t.space.pivots) && (pointwise ◌==◌ s.space.rows t.space.rows && (s.space.shift == t.space.shift)))
    && ((s.form.phase == t.form.phase) && ((s.form.odd == t.form.odd) && ((s.form.neg == t.form.neg)
    && pointwise ◌==◌ s.form.coupling t.form.coupling)))) ≡ true
    → Alike s t
told s t h =
    let space = both (both h).0 in
    let form = both (both h).1 in
    let lower = both form.1 in
    let last = both lower.1 in
    record {
      pivots = eqb-true _ _ space.0;
      rows = same_text _ _ (sym (both space.1).0);
      shift = eqb-true _ _ (both space.1).1;
      phase = eqb-true _ _ form.0;
      odd = eqb-true _ _ lower.0;
      neg = eqb-true _ _ last.0;
      coupling = same_text _ _ (sym last.1);
    }
  where
    both : {a b : Bool} → (a && b) ≡ true → (a ≡ true) × (b ≡ true)
    both {a = true} h = (refl, h)
    both {a = false} h = cc

pub same-fields : (s t : PhasedSpace) → length s.space.rows ≡ length t.space.rows → length s.form.coupling ≡ length t.form.coupling
    → SamePhases s t → Alike s t
same-fields s t rows couplings h =
    let strings = same-strings s t h in
    let pivots = pivots-same s.space t.space strings in
    let form = same-form s.form t.form (λ c l. same-values s t h pivots c) in
    record {
      pivots = pivots;
      rows = same_number_lists s.space.rows t.space.rows rows (λ p l. row_same s.space t.space strings.0 pivots p);
      shift = shift_same s.space t.space strings.0 pivots;
      phase = form.phases;
      odd = form.odds;
      neg = form.negs;
      coupling = same_number_lists s.form.coupling t.form.coupling couplings (λ a l. form.rows a);
    }

-- and such spaces have the same phases
pub alike-phases : (s t : PhasedSpace) → Alike s t → SamePhases s t
unfolding phase value_at
alike-phases s t a y = cc
