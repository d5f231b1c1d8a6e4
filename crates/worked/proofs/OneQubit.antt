-- States of one qubit with both strings: their bytes, their fields, and their phases.
use Rattle.std.proofs.Common.{◌≡◌, ℕ, ◌+◌, ◌*◌, ◌%◌, ◌^◌, ◌≤◌, List, Some, None, Option, sym, refl, ap, ◌∙◌, subst, ap₂, arith}
use native.Mathlib.Decide.{ℕ_discrete}
use lib.Bits.{bit_and, bit_xor}
use lib.Count.{count_leading_zeros}
use Rattle.quadratic.specs.Bits.{bit}
use Rattle.quadratic.specs.Echelon.{row}
use Rattle.quadratic.specs.Fields.{coefficient_at}
use Rattle.quadratic.specs.Phase.{phase}
use Rattle.quadratic.specs.Strings.{Member}
use Rattle.quadratic.specs.Value.{value_at}
use Rattle.quadratic.specs.declared.phased.PhasedSpace.{PhasedSpace}
use Rattle.quadratic.proofs.Bitlaws.{bit-lt, bit-pow, bit-pow-other}
use Rattle.quadratic.proofs.Dots.{by_bits}
use Rattle.quadratic.proofs.Extent.{shift-phase, phases-below}
use Rattle.quadratic.proofs.Laws.{facts, comb-pow}
use Rattle.quadratic.proofs.Phases.{phase-in}
use Rattle.stabilizer.specs.declared.state.StabilizerState.{StabilizerState}
use Rattle.archive.specs.Bits.{bits_from}
use Rattle.archive.specs.Held.{Holds, Spans, Weighs}
use Rattle.archive.specs.Layout.{size_at, rank_at, row_at, lead}
use Rattle.archive.proofs.Coefficients.{value-zero, value-one}

-- the fields of a space of both strings of one qubit
pub record Both (s : PhasedSpace) (Q D : ℕ) : Type 0 where
  pub pivots : s.space.pivots ≡ 1
  pub row : row s.space.rows 0 ≡ 1
  pub shift : s.space.shift ≡ 0
  pub phase : s.form.phase ≡ Q
  pub linear : coefficient_at s 0 ≡ D

-- the phases at the two strings, and none past them
pub record Phases (f : ℕ → Option ℕ) (a b : ℕ) : Type 0 where
  pub zeroth : f 0 ≡ Some a
  pub first : f 1 ≡ Some b
  pub past : (y : ℕ) → 2 ≤ y → f y ≡ None

pub both-phases : (s : PhasedSpace) (Q D : ℕ) → Both s Q D → Phases (phase s) Q ((Q + D) % 8)
both-phases s Q D h = record {
  zeroth = ap (phase s) (sym h.shift) ∙ shift-phase s ∙ ap Some (ap (value_at s.form) h.shift ∙ value-zero s.form ∙ h.phase);
  first = phase-in s 1 one ∙ ap Some (value-one s.form 0 (omega arith) ∙ ap₂ (λ a b. (a + b) % 8) h.phase h.linear);
  past = λ y l. go y l (phase s y) refl;
}
  where
    one : Member s.space 1
    one = (
      bit_and (2 ^ 0) s.space.pivots,
      sym (ap₂ bit_xor h.shift
          (comb-pow s.space.pivots (row s.space.rows) s.space.shift (facts s.space) 0 ∙ h.row)),
    )

    go : (y : ℕ) → 2 ≤ y → (o : Option ℕ) → phase s y ≡ o → phase s y ≡ None
    go y l None e = e
    go y l (Some m) e =
        let k = phases-below s 1 (omega (arith, h.pivots)) (omega (arith, h.shift)) y m e in absurd (omega arith)

-- the bits of a run that holds a state of one qubit with both strings
pub record Bits (b : List ℕ) (e Q d : ℕ) : Type 0 where
  pub size : size_at b 0 ≡ 1
  pub rank : rank_at b 0 ≡ 1
  pub weight : bits_from b 12 13 ≡ e
  pub phase : bits_from b 25 3 ≡ Q
  pub row : bits_from b 28 1 ≡ 1
  pub shift : bits_from b 29 1 ≡ 0
  pub linear : bits_from b 30 2 ≡ d

pub held_both : (b : List ℕ) (e Q d : ℕ) (s : StabilizerState) → Bits b e Q d → Holds b 0 s → Both s.body Q (2 * d)
unfolding count_leading_zeros
held_both b e Q d s f h =
    let v : Spans b 0 1 1 s.body = subst (λ n. Spans b 0 n 1 s.body) f.size
    (subst (λ k. Spans b 0 (size_at b 0) k s.body) f.rank h.spans) in
    let w : Weighs b 0 1 1 s.body = subst (λ n. Weighs b 0 n 1 s.body) f.size
    (subst (λ k. Weighs b 0 (size_at b 0) k s.body) f.rank h.weighs) in
    let at : lead (row_at b 0 1 0) ≡ 0 = ap lead f.row in
    let own : row s.body.space.rows 0 ≡ 1 = ap (row s.body.space.rows) (sym at) ∙ v.rows 0 (omega arith) ∙ f.row in
    record {
      pivots = by_bits s.body.space.pivots 1 (λ i. bits s.body v own at i (ℕ_discrete i 0));
      row = own;
      shift = v.shift ∙ f.shift;
      phase = w.phase ∙ f.phase;
      linear = ap (coefficient_at s.body) (sym at) ∙ w.linear 0 (omega arith) ∙ ap (λ x. 2 * x) f.linear;
    }
  where
    bits : (s : PhasedSpace) → Spans b 0 1 1 s → row s.space.rows 0 ≡ 1 → lead (row_at b 0 1 0) ≡ 0 → (i : ℕ) → Dec (i ≡ 0)
        → bit s.space.pivots i ≡ bit 1 i
    bits s v own at i (yes z) = ap (bit s.space.pivots) z ∙ on ∙ sym (ap (bit 1) z ∙ bit-pow 0)
      where
        on : bit s.space.pivots 0 ≡ 1
        on = elim (ℕ_discrete (bit s.space.pivots 0) 1) [
          | yes o ↦ o
          | no ne ↦
              let l = bit-lt s.space.pivots 0 in
              let off = s.space.idle 0 (omega arith) in
              absurd (omega (arith, own, off))
        ]
    bits s v own at i (no ne) = off ∙ sym (bit-pow-other 0 i ne)
      where
        off : bit s.space.pivots i ≡ 0
        off = elim (ℕ_discrete (bit s.space.pivots i) 1) [
          | yes o ↦
              let (a, l, e) = v.pivots i o in
              let z : a ≡ 0 = omega arith in
              absurd (ne (e ∙ ap (λ a. lead (row_at b 0 1 a)) z ∙ at))
          | no n ↦ let l = bit-lt s.space.pivots i in omega arith
        ]
