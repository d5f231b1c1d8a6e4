-- The projections of the examples, by their texts.
use Rattle.std.proofs.Common.{◌≡◌, ℕ, zero, suc, ◌+◌, ◌^◌, ◌<◌, List, [], ◌∷◌, ap, ◌∙◌, subst, arith, lit<}
use Rattle.cyclotomic.specs.Adjoin.{omegas}
use Rattle.cyclotomic.specs.CommFacts
use Rattle.cyclotomic.specs.Ring.{wpow, exact}
use Rattle.cyclotomic.proofs.Ints.{omega-laws}
use Rattle.cyclotomic.proofs.RingFacts
use Rattle.quadratic.specs.Bits.{bit}
use Rattle.stabilizer.specs.Calls.{doubled, Step, project, ProjectedBy}
use Rattle.stabilizer.specs.Overlaps.{depth}
use Rattle.stabilizer.specs.Paulis.{Pauli, Letter, X, Y, Z, pauli_of, text_number}
use Rattle.stabilizer.specs.States.{Opened}
use Rattle.stabilizer.specs.Vectors.{entry}
use Rattle.stabilizer.specs.declared.state.StabilizerState.{StabilizerState}
use Rattle.archive.specs.Bits.{bit_at, bits_from}
use Rattle.archive.specs.Writes.{RunOf}
use Rattle.worked.specs.Worked.{level, turned, apart, plus_x, plus_y, minus_z, Leaves}
use Rattle.worked.proofs.Bytes.{level-run, turned-run, apart-run}
use Rattle.worked.proofs.Entries.{entry-some, entry-none}
use Rattle.worked.proofs.Onto.{onto, vanished, first_alone, second-alone, both-entries, opened-depth, opened-zeroth, opened-first}
use Rattle.worked.proofs.Shared.{level-depth, level-phases, plus-quarter}

-- a letter with a sign
abbrev letter : ℕ → Letter → Pauli
letter e l = record { minus = e; letters = l ∷ [] }

-- a text of two bytes is read for one qubit
read : (text : List ℕ) (s : StabilizerState) → s.qubits ≡ 1 → (a : ℕ) (s' : StabilizerState) → Step (project text) s a s'
    → ProjectedBy (text_number 1 text) (pauli_of text) s a s'
read text s e a s' h = subst (λ n. ProjectedBy (text_number n text) (pauli_of text) s a s') e h

module _ (s : StabilizerState) (h : Opened s 1) (k : ℕ) (all : k + depth s ≡ 4144) where
  zeroth : entry s 0 ≡ exact omegas k 0
  zeroth = entry-some s k 0 0 all (opened-zeroth s h)

  first : entry s 1 ≡ omegas.nil
  first = entry-none s 1 (opened-first s h)

  other : depth s + k ≡ 4146 → ⊥
  other e = omega (arith, e, all)

  light : s.loss ≡ 4096 → ⊥
  light e = omega (arith, e, h.loss)

  full : k ≡ 4144
  full = let d = opened-depth s h in omega (arith, all, d)

  pub opened-x : Leaves s plus_x level
  unfolding bit
  opened-x a s' p = onto (letter 0 X) s k 0 0 (lit< tt) (lit< tt) h.qubits
      (first_alone k 0 0 _ _ zeroth first) (second-alone k 0 _ _ first zeroth) light other level 1 0 level-run
      (ap (λ n. n + 1) h.loss) (omega (arith, full)) (λ L l e. omega arith) a s' (read plus_x s h.qubits a s' p)

  pub opened-y : Leaves s plus_y turned
  unfolding bit
  opened-y a s' p = onto (letter 0 Y) s k 0 2 (lit< tt) (lit< tt) h.qubits
      (first_alone k 0 6 _ _ zeroth first) (second-alone k 2 _ _ first zeroth) light other turned 1 1 turned-run
      (ap (λ n. n + 1) h.loss) (omega (arith, full)) (λ L l e. omega arith) a s' (read plus_y s h.qubits a s' p)

  vanishes : (y : ℕ) → y < 2 → doubled (letter 1 Z) (entry s) y ≡ omegas.nil
  unfolding bit
  vanishes zero l = RingFacts.and-fourth omega-laws (entry s 0)
  vanishes (suc zero) l = ap (λ x. omegas.plus x (omegas.times (wpow omegas 8) x)) first
      ∙ ap (omegas.plus omegas.nil) (CommFacts.times_nil omega-laws.comm (wpow omegas 8)) ∙ omega-laws.comm.plus_nil omegas.nil
  vanishes (suc (suc y)) l = absurd (omega arith)

  pub opened-z : (a : ℕ) (s' : StabilizerState) → Step (project minus_z) s a s' → a ≡ 21
  opened-z a s' p = vanished (letter 1 Z) s (λ y l. vanishes y (subst (λ n. y < 2 ^ n) h.qubits l)) a s'
      (read minus_z s h.qubits a s' p)

pub level-y : (s : StabilizerState) → RunOf s level → (k : ℕ) → k + depth s ≡ 4144 → Leaves s plus_y apart
unfolding bit bits_from bit_at
level-y s r k all a s' p =
    let h = level-phases s r in
    let zeroth = entry-some s k 0 0 all h.zeroth in
    let first = entry-some s k 1 0 all h.first in
    let d = level-depth s r in
    let loss : s.loss ≡ 1 = r.holds.weight in
    onto (letter 0 Y) s (suc k) 7 1 (lit< tt) (lit< tt) r.holds.qubits
    (both-entries k 6 7 _ _ (RingFacts.one-six omega-laws) zeroth first) (both-entries k 2 1 _ _ plus-quarter first zeroth)
    (λ e. omega (arith, e, loss)) (λ e. omega (arith, e, all)) apart 2 1 apart-run
    (ap (λ n. n + 1) loss) (omega (arith, all, d)) (λ L l e. omega arith) a s' (read plus_y s r.holds.qubits a s' p)
