-- From the phases of a state of one qubit to its fields, and to its bytes.
use Rattle.std.proofs.Common.{◌≡◌, ℕ, ◌+◌, ◌*◌, ◌%◌, ◌^◌, ◌<◌, List, Some, sym, ap, ◌∙◌, subst, arith}
use native.Mathlib.Decide.{ℕ_discrete}
use lib.Bits.{bit_and}
use lib.Count.{ones, ones-le, count_leading_zeros}
use Rattle.quadratic.specs.Bits.{bit}
use Rattle.quadratic.specs.Echelon.{row}
use Rattle.quadratic.specs.Fields.{coefficient_at}
use Rattle.quadratic.specs.Phase.{phase}
use Rattle.quadratic.specs.Value.{value_at}
use Rattle.quadratic.specs.declared.phased.PhasedSpace.{PhasedSpace}
use Rattle.quadratic.proofs.Bitlaws.{bit-pow-other}
use Rattle.quadratic.proofs.Phases.{phase-in}
use Rattle.quadratic.proofs.Same.{has-phase}
use Rattle.stabilizer.specs.declared.state.StabilizerState.{StabilizerState}
use Rattle.archive.specs.Bits.{bits_from}
use Rattle.archive.specs.Held.{Holds, Spans, Weighs, linear_place}
use Rattle.archive.specs.Layout.{rank_at, row_at, lead}
use Rattle.archive.proofs.Coefficients.{value-zero, value-one, coef-low}
use Rattle.worked.proofs.OneQubit.{Both, Bits}
use Rattle.worked.proofs.Places.{some}

-- the value at a string that has a phase
value-at : (s : PhasedSpace) (y m : ℕ) → phase s y ≡ Some m → value_at s.form y ≡ m
value-at s y m e = some (sym (phase-in s y (has-phase s y m e)) ∙ e)

-- the fields, where 2 strings have the phases Q and Q + D
pub phases-both : (s : StabilizerState) (Q D v : ℕ) → s.qubits ≡ 1 → ones s.body.space.pivots ≡ 1 → phase s.body 0 ≡ Some Q
    → phase s.body 1 ≡ Some v → ((L : ℕ) → L < 8 → (Q + L) % 8 ≡ v → L ≡ D) → Both s.body Q D
phases-both s Q D v q o zeroth first only =
    let P = s.body.space.pivots in
    let size : 2 ^ s.qubits ≡ 2 = ap (λ n. 2 ^ n) q in
    let pivots : P ≡ 1 = one P (omega (arith, s.inside, size)) o in
    let R = row s.body.space.rows 0 in
    let Q₀ = sym (value-zero s.body.form) ∙ value-at s.body 0 Q zeroth in
    record {
      pivots = pivots;
      row = set R (s.body.space.low 0) (ap (bit_and R) (sym pivots) ∙ s.body.space.lead 0 ∙ ap (bit_and 1) pivots);
      shift = clear s.body.space.shift (omega (arith, s.near, size))
          (ap (bit_and s.body.space.shift) (sym pivots) ∙ s.body.space.clean);
      phase = Q₀;
      linear = only (coefficient_at s.body 0) (coef-low s.body.form 0)
          (ap (λ x. (x + coefficient_at s.body 0) % 8) (sym Q₀) ∙ sym (value-one s.body.form 0 (omega arith))
          ∙ value-at s.body 1 v first);
    }
  where
    one : (P : ℕ) → P < 2 → ones P ≡ 1 → P ≡ 1
    one P l e = elim (ℕ_discrete P 0) [
      | yes z ↦ let i : 1 ≡ ones 0 = sym e ∙ ap ones z in let l = ones-le 0 0 (omega arith) in absurd (omega (arith, i, l))
      | no ne ↦ omega arith
    ]

    set : (R : ℕ) → R < 2 ^ 1 → bit_and R 1 ≡ 1 → R ≡ 1
    set R l e = elim (ℕ_discrete R 0) [
      | yes z ↦ let i : ◌≡◌ {A = ℕ} 1 0 = sym e ∙ ap (λ x. bit_and x 1) z in absurd (omega (arith, i))
      | no ne ↦ omega arith
    ]

    clear : (h : ℕ) → h < 2 → bit_and h 1 ≡ 0 → h ≡ 0
    clear h l e = elim (ℕ_discrete h 1) [
      | yes z ↦ let i : ◌≡◌ {A = ℕ} 0 1 = sym e ∙ ap (λ x. bit_and x 1) z in absurd (omega (arith, i))
      | no ne ↦ omega arith
    ]

-- and the bits that hold them
pub both-held : (b : List ℕ) (e Q d : ℕ) (s : StabilizerState) → Bits b e Q d → s.qubits ≡ 1 → s.loss ≡ e
    → ones s.body.space.pivots ≡ 1 → Both s.body Q (2 * d) → Holds b 0 s
unfolding count_leading_zeros
both-held b e Q d s f q l o h =
    let at : lead (row_at b 0 1 0) ≡ 0 = ap lead f.row in
    record {
      qubits = q ∙ sym f.size;
      weight = l ∙ sym f.weight;
      spans = subst (λ n. Spans b 0 n (rank_at b 0) s.body) (sym f.size) (subst (λ k. Spans b 0 1 k s.body) (sym f.rank)
          (record {
            count = o;
            pivots = λ p on. (0, omega arith, lowest p on ∙ sym at);
            rows = λ a m. rows a (omega arith) at;
            shift = h.shift ∙ sym f.shift;
          }));
      weighs = subst (λ n. Weighs b 0 n (rank_at b 0) s.body) (sym f.size) (subst (λ k. Weighs b 0 1 k s.body) (sym f.rank)
          (record {
            phase = h.phase ∙ sym f.phase;
            linear = λ a m. linears a (omega arith) at;
            coupling = λ a c m n. absurd (omega arith);
          }));
    }
  where
    lowest : (p : ℕ) → bit s.body.space.pivots p ≡ 1 → p ≡ 0
    lowest p on = elim (ℕ_discrete p 0) [
      | yes z ↦ z
      | no ne ↦ let z = sym on ∙ ap (λ m. bit m p) h.pivots ∙ bit-pow-other 0 p ne in absurd (omega (arith, z))
    ]

    rows : (a : ℕ) → a ≡ 0 → lead (row_at b 0 1 0) ≡ 0 → row s.body.space.rows (lead (row_at b 0 1 a)) ≡ row_at b 0 1 a
    rows a z at = ap (λ a. row s.body.space.rows (lead (row_at b 0 1 a))) z ∙ ap (row s.body.space.rows) at ∙ h.row
        ∙ sym (ap (row_at b 0 1) z ∙ f.row)

    linears : (a : ℕ) → a ≡ 0 → lead (row_at b 0 1 0) ≡ 0
        → coefficient_at s.body (lead (row_at b 0 1 a)) ≡ 2 * bits_from b (linear_place 0 1 1 a) 2
    linears a z at = ap (λ a. coefficient_at s.body (lead (row_at b 0 1 a))) z ∙ ap (coefficient_at s.body) at ∙ h.linear
        ∙ sym (ap (λ a. 2 * bits_from b (linear_place 0 1 1 a) 2) z ∙ ap (λ x. 2 * x) f.linear)
