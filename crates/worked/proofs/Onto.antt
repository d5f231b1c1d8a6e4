-- Projections of states of one qubit.
use Rattle.std.proofs.Common.{◌≡◌, ℕ, suc, ◌+◌, ◌*◌, ◌%◌, ◌^◌, ◌<◌, List, Some, None, Option, sym, refl, ap, ◌∙◌, ap₂, arith}
use lib.Count.{ones, ones-le}
use Rattle.cyclotomic.specs.Adjoin.{Omega, omegas}
use Rattle.cyclotomic.specs.CommFacts
use Rattle.cyclotomic.specs.Ring.{wpow, root, rpow, exact}
use Rattle.cyclotomic.proofs.Ints.{omega-laws}
use Rattle.cyclotomic.proofs.Scalars.{exact-not-nil}
use Rattle.quadratic.specs.Phase.{phase}
use Rattle.quadratic.proofs.Extent.{shift-phase, phases-below}
use Rattle.stabilizer.specs.Calls.{doubled, Vanishes, Becomes, Projected, impossible, exhausted, kept, halved}
use Rattle.stabilizer.specs.Overlaps.{depth}
use Rattle.stabilizer.specs.Paulis.{Pauli}
use Rattle.stabilizer.specs.States.{Opened}
use Rattle.stabilizer.specs.Vectors.{entry}
use Rattle.stabilizer.specs.declared.state.StabilizerState.{StabilizerState}
use Rattle.archive.specs.Writes.{RunOf}
use Rattle.worked.proofs.Entries.{entry_known}
use Rattle.worked.proofs.Bytes.{Run}
use Rattle.worked.proofs.Runs.{phases-both, both-held}

infixl 65 ◌⊕◌
infixl 70 ◌⊗◌
open omegas use {nil, one, plus as ◌⊕◌, times as ◌⊗◌}

-- a projection with the amplitudes 2^(k/2) ω^u and 2^(k/2) ω^v, doubled, that are not those of s
module _ (P : Pauli) (s : StabilizerState) (k u v : ℕ) (lu : u < 8) (lv : v < 8) (size : s.qubits ≡ 1)
    (zeroth : doubled P (entry s) 0 ≡ exact omegas k u) (first : doubled P (entry s) 1 ≡ exact omegas k v) where
  inside : (y : ℕ) → y < 2 → y < 2 ^ s.qubits
  inside y l = let e : 2 ^ s.qubits ≡ 2 = ap (λ n. 2 ^ n) size in omega (arith, e)

  left : (t : StabilizerState) → Becomes P s t → t.qubits ≡ s.qubits → (b : List ℕ) (e d : ℕ) → Run b e u d → t.loss ≡ e → k + e ≡ 4145
      → ((L : ℕ) → L < 8 → (u + L) % 8 ≡ v → L ≡ 2 * d) → RunOf t b
  left t c q b e d r i n only =
      let x = entry_known t 0 k u lu (c 0 (inside 0 (omega arith)) ∙ zeroth) in
      let y = entry_known t 1 k v lv (c 1 (inside 1 (omega arith)) ∙ first) in
      let o : ones t.body.space.pivots ≡ 1 = omega (arith, x.1, i, n) in
      record {
        sound = r.sound;
        holds = both-held b e u d t r.bits (q ∙ size) i o (phases-both t u (2 * d) v (q ∙ size) o x.0 y.0 only);
        bytes = r.bytes;
      }

  pub onto : (s.loss ≡ 4096 → ⊥) → (depth s + k ≡ 4146 → ⊥) → (b : List ℕ) (e d : ℕ) → Run b e u d → s.loss + 1 ≡ e → k + e ≡ 4145
      → ((L : ℕ) → L < 8 → (u + L) % 8 ≡ v → L ≡ 2 * d) → (a : ℕ) (s' : StabilizerState) → Projected P s a s' → (a ≡ 0) × RunOf s' b
  onto light other b e d r i n only a s' (impossible z) = absurd (exact-not-nil k u (sym zeroth ∙ z 0 (inside 0 (omega arith))))
  onto light other b e d r i n only a s' (exhausted z c l) = absurd (light l)
  onto light other b e d r i n only a s' (kept z c) = absurd (other (entry_known s 0 k u lu (c 0 (inside 0 (omega arith)) ∙ zeroth)).1)
  onto light other b e d r i n only a s' (halved t z f c q l) = (refl, left t c q b e d r (l ∙ i) n only)

-- a projection that vanishes answers 21
pub vanished : (P : Pauli) (s : StabilizerState) → Vanishes P s → (a : ℕ) (s' : StabilizerState) → Projected P s a s' → a ≡ 21
vanished P s v a s' (impossible z) = refl
vanished P s v a s' (exhausted z c l) = absurd (z v)
vanished P s v a s' (kept z c) = absurd (z v)
vanished P s v a s' (halved t z f c q l) = absurd (z v)

-- ---- sums of two entries

pub first_alone : (k m a : ℕ) (x y : Omega) → x ≡ exact omegas k m → y ≡ nil → x ⊕ wpow omegas a ⊗ y ≡ exact omegas k m
first_alone k m a x y e z = ap₂ (λ x y. x ⊕ wpow omegas a ⊗ y) e z
    ∙ ap (◌⊕◌ (exact omegas k m)) (CommFacts.times_nil omega-laws.comm (wpow omegas a)) ∙ omega-laws.comm.plus_nil (exact omegas k m)

pub second-alone : (k a : ℕ) (x y : Omega) → x ≡ nil → y ≡ exact omegas k 0 → x ⊕ wpow omegas a ⊗ y ≡ exact omegas k a
second-alone k a x y z e =
    ap₂ (λ x y. x ⊕ wpow omegas a ⊗ y) z (e ∙ omega-laws.comm.times_one (rpow omegas k))
    ∙ CommFacts.nil_plus omega-laws.comm (wpow omegas a ⊗ rpow omegas k) ∙ omega-laws.comm.times_comm (wpow omegas a) (rpow omegas k)

-- 1 + ω^a is √2 ω^c
pub both-entries : (k a c : ℕ) (x y : Omega) → one ⊕ wpow omegas a ≡ root omegas ⊗ wpow omegas c → x ≡ exact omegas k 0
    → y ≡ exact omegas k 0 → x ⊕ wpow omegas a ⊗ y ≡ exact omegas (suc k) c
both-entries k a c x y h ex ey =
    let r = rpow omegas k in
    let comm = omega-laws.comm in
    ap₂ (λ x y. x ⊕ wpow omegas a ⊗ y) (ex ∙ comm.times_one r ∙ sym (CommFacts.one_times comm r)) (ey ∙ comm.times_one r)
    ∙ sym (CommFacts.plus_times comm one (wpow omegas a) r) ∙ ap (λ z. z ⊗ r) h
    ∙ comm.times_assoc (root omegas) (wpow omegas c) r ∙ ap (◌⊗◌ (root omegas)) (comm.times_comm (wpow omegas c) r)
    ∙ sym (comm.times_assoc (root omegas) r (wpow omegas c))

-- ---- the opened state

module _ (s : StabilizerState) (h : Opened s 1) where
  pub opened-depth : depth s ≡ 0
  opened-depth =
      let l = ones-le 0 0 (omega arith) in
      let z = ap ones h.body.pivots in
      omega (arith, h.loss, l, z)

  pub opened-zeroth : phase s.body 0 ≡ Some 0
  opened-zeroth = ap (phase s.body) (sym h.body.shift) ∙ shift-phase s.body ∙ ap Some (h.body.value s.body.space.shift)

  pub opened-first : phase s.body 1 ≡ None
  opened-first = go (phase s.body 1) refl
    where
      go : (o : Option ℕ) → phase s.body 1 ≡ o → phase s.body 1 ≡ None
      go None e = e
      go (Some m) e =
          let l = phases-below s.body 0 (omega (arith, h.body.pivots)) (omega (arith, h.body.shift)) 1 m e in absurd (omega arith)
