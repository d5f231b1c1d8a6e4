-- A space restricted by a parity that some of its strings have and some have not.
use Rattle.std.proofs.Common.{◌≡◌, ℕ, ◌+◌, ◌*◌, ◌^◌, cond, eqb, Some, None, sym, ap, ◌∙◌, ap₂, inl, inr, zero-mul}
use native.Mathlib.Decide.{ℕ_discrete}
use lib.Bits.{bit_and, bit_xor, xor_self, xor_comm, and_comm}
use lib.Count.{ones}
use Rattle.std.proofs.lemmas.Bool.{eq-eqb, ne_eqb, cond-true, cond-false}
use Rattle.quadratic.specs.Bits.{bit, dot}
use Rattle.quadratic.specs.Echelon.{row}
use Rattle.quadratic.specs.Moves.{Halved}
use Rattle.quadratic.specs.Phase.{phase}
use Rattle.quadratic.specs.Strings.{Member, Half}
use Rattle.quadratic.specs.Value.{value_at}
use Rattle.quadratic.specs.declared.affine.AffineSpace.{AffineSpace}
use Rattle.quadratic.specs.declared.phased.PhasedSpace.{PhasedSpace}
use Rattle.quadratic.proofs.Bitlaws.{bit-zero, not-both}
use Rattle.quadratic.proofs.Dots.{and_xor}
use Rattle.quadratic.proofs.Laws.{facts, shift_in, red-keep, lead-bit, and_pow}
use Rattle.quadratic.proofs.Left.{left-row, left-zero, left-none}
use Rattle.quadratic.proofs.Lowest.{dropped, ones-drop}
use Rattle.quadratic.proofs.Linear.{back}
use Rattle.quadratic.proofs.Phases.{phase-in, phase-out, in-or-out}

-- ---- the pivot that goes

pub gone-back : (P P' : ℕ) → bit_xor P' (bit_xor P P') ≡ P
gone-back P P' = xor_comm P' (bit_xor P P') ∙ back P P'

module _ (P P' p : ℕ) (on : bit P p ≡ 1) (pe : P' ≡ bit_xor P (2 ^ p)) where
  gone-is : bit_xor P P' ≡ 2 ^ p
  gone-is = ap (bit_xor P) (pe ∙ xor_comm P (2 ^ p)) ∙ gone-back (2 ^ p) P

  pub gone-off : bit_and (bit_xor P P') P' ≡ 0
  gone-off = ap (λ x. bit_and x P') gone-is ∙ and_pow p P' ∙ ap (λ b. b * 2 ^ p) (ap (λ x. bit x p) pe ∙ dropped P p on) ∙ zero-mul (2 ^ p)

module _ (s s' : AffineSpace) (w b p : ℕ) (half : Half s s' w b) (on : bit s.pivots p ≡ 1)
    (pe : s'.pivots ≡ bit_xor s.pivots (2 ^ p)) where
  -- the row of the pivot has no pivot that stays
  row-off : bit_and (row s.rows p) s'.pivots ≡ 0
  row-off =
      let P = s.pivots in
      let r = row s.rows p in
      ap (bit_and r) pe ∙ and_xor r P (2 ^ p)
      ∙ ap₂ bit_xor (s.lead p ∙ and_pow p P ∙ ap (λ b. b * 2 ^ p) on)
      (and_comm r (2 ^ p) ∙ and_pow p r ∙ ap (λ b. b * 2 ^ p) (lead-bit P (row s.rows) s.shift (facts s) p on))
      ∙ xor_self (1 * 2 ^ p)

  -- a string that stays, moved along the row that goes, is one that does not
  pub lost : Member s (bit_xor s'.shift (row s.rows p)) × (dot w (bit_xor s'.shift (row s.rows p)) ≡ b → ⊥)
  lost =
      let r = row s.rows p in
      let y = s'.shift in
      let own = shift_in s' in
      let over = left-none s r (left-row s p) y (half.old y own) in (
        over,
        λ e.
            let z : r ≡ 0 = sym (red-keep s'.pivots (row s'.rows) s'.shift (facts s') r row-off)
            ∙ left-zero s' r y own (half.kept (bit_xor y r) over e) in
            not-both (bit r p) (ap (λ x. bit x p) z ∙ bit-zero p) (lead-bit s.pivots (row s.rows) s.shift (facts s) p on),
      )

-- the phases on a part of the strings
half-phase : (s s' : PhasedSpace) (w b : ℕ) → Half s.space s'.space w b
    → ((y : ℕ) → Member s'.space y → value_at s'.form y ≡ value_at s.form y)
    → (y : ℕ) → phase s' y ≡ cond (eqb (dot w y) b) (phase s y) None
half-phase s s' w b d v y =
    elim (in-or-out s' y) [
      | inl m ↦
          phase-in s' y m ∙ ap (λ x. Some x) (v y m) ∙ sym (phase-in s y (d.old y m))
          ∙ sym (cond-true (eqb (dot w y) b) (phase s y) None (eq-eqb (dot w y) b (d.parity y m)))
      | inr n ↦ phase-out s' y n ∙ elim (ℕ_discrete (dot w y) b) [
        | yes e ↦ sym (cond-true (eqb (dot w y) b) (phase s y) None (eq-eqb (dot w y) b e) ∙ phase-out s y (λ m. n (d.kept y m e)))
        | no ne ↦ sym (cond-false (eqb (dot w y) b) (phase s y) None (ne_eqb (dot w y) b ne))
      ]
    ]

pub halved : (s s' : PhasedSpace) (w b p : ℕ) → Half s.space s'.space w b → bit s.space.pivots p ≡ 1
    → s'.space.pivots ≡ bit_xor s.space.pivots (2 ^ p)
    → ((y : ℕ) → Member s'.space y → value_at s'.form y ≡ value_at s.form y) → Halved s s' w b
halved s s' w b p half on pe v = record {
  phases = half-phase s s' w b half v;
  kept = let own = shift_in s'.space in (s'.space.shift, (half.old s'.space.shift own, half.parity s'.space.shift own));
  lost = (bit_xor s'.space.shift (row s.space.rows p), lost s.space s'.space w b p half on pe);
  rows = ap (λ x. ones x + 1) pe ∙ ones-drop s.space.pivots p s.space.within on;
}
