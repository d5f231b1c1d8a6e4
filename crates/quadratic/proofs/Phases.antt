-- The phase at a string of a space, and at any other.
use Rattle.std.proofs.Common.{◌≡◌, ℕ, eqb, ◌⊎◌, Some, None, inl, inr}
use native.Mathlib.Decide.{ℕ_discrete}
use Rattle.std.proofs.lemmas.Bool.{eq-eqb, ne_eqb, cond-true, cond-false}
use Rattle.quadratic.specs.Echelon.{row, reduced}
use Rattle.quadratic.specs.Phase.{phase}
use Rattle.quadratic.specs.Strings.{Member}
use Rattle.quadratic.specs.Value.{value_at}
use Rattle.quadratic.specs.declared.phased.PhasedSpace.{PhasedSpace}
use Rattle.quadratic.proofs.Laws.{holds, member}

pub phase-in : (s : PhasedSpace) (y : ℕ) → Member s.space y → phase s y ≡ Some (value_at s.form y)
unfolding phase
phase-in s y m = cond-true (eqb (reduced s.space.pivots (row s.space.rows) y) s.space.shift)
    (Some (value_at s.form y)) None (eq-eqb _ _ (holds s.space y m))

pub phase-out : (s : PhasedSpace) (y : ℕ) → (Member s.space y → ⊥) → phase s y ≡ None
unfolding phase
phase-out s y n = cond-false (eqb (reduced s.space.pivots (row s.space.rows) y) s.space.shift)
    (Some (value_at s.form y)) None (ne_eqb _ _ (λ e. n (member s.space y e)))

-- a string is in the space or it is not
pub in-or-out : (s : PhasedSpace) (y : ℕ) → Member s.space y ⊎ (Member s.space y → ⊥)
in-or-out s y =
    elim (ℕ_discrete (reduced s.space.pivots (row s.space.rows) y) s.space.shift) [
      | yes e ↦ inl (member s.space y e)
      | no ne ↦ inr (λ m. ne (holds s.space y m))
    ]
