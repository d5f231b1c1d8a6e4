-- A projection of the body is the projection of the state: what is left, what its weight is, and that it is another state.
use Rattle.std.proofs.Common.{◌≡◌, ℕ, ◌+◌, ◌-◌, ◌*◌, ◌%◌, ◌^◌, ◌<◌, pos, neg_ℤ, Some, None, Option, sym, refl, ap, ◌∙◌, subst, ap₂, arith}
use lib.Bits.{bit_xor, xor_lt}
use lib.Count.{ones}
use Rattle.cyclotomic.specs.Adjoin.{Omega, omegas}
use Rattle.cyclotomic.specs.CommFacts
use Rattle.cyclotomic.specs.Exact.{scaled}
use Rattle.cyclotomic.specs.Ring.{two, wpow, rpow}
use Rattle.cyclotomic.proofs.Exact.{scaled-nought, scaled-unit}
use Rattle.cyclotomic.proofs.Ints.{omega-laws}
use Rattle.cyclotomic.proofs.RingFacts
use Rattle.cyclotomic.proofs.Scalars.{double-same, exact-not-nil, exact_same}
use Rattle.quadratic.specs.Bits.{dot}
use Rattle.quadratic.specs.Moves.{turn}
use Rattle.quadratic.specs.Phase.{phase}
use Rattle.quadratic.specs.Strings.{Member}
use Rattle.quadratic.specs.declared.phased.PhasedSpace.{PhasedSpace}
use Rattle.quadratic.proofs.Distinct.{pivots-same}
use Rattle.quadratic.proofs.Extent.{shift-phase, phases-below, space-below}
use Rattle.quadratic.proofs.Linear.{back}
use Rattle.quadratic.proofs.Phases.{phase-in}
use Rattle.quadratic.proofs.Same.{has-phase}
use Rattle.stabilizer.specs.Calls.{applied, doubled, Vanishes, Becomes, Projected, halved}
use Rattle.stabilizer.specs.Masks.{SignedMasks}
use Rattle.stabilizer.specs.Overlaps.{depth}
use Rattle.stabilizer.specs.Paulis.{Pauli, flips, turns, pauli_matrix}
use Rattle.stabilizer.specs.Projections.{term, operated, sum_at, Summed}
use Rattle.stabilizer.specs.States.{amplitude_of}
use Rattle.stabilizer.specs.Vectors.{entry}
use Rattle.stabilizer.specs.declared.pauli.PauliMasks.{PauliMasks}
use Rattle.stabilizer.specs.declared.state.StabilizerState.{StabilizerState}
use Rattle.stabilizer.proofs.Inner.{depth_le, below}
use Rattle.stabilizer.proofs.Projecting.{laws, term-turn, squared}

infixl 65 ◌⊕◌
infixl 70 ◌⊗◌
open omegas use {nil, plus as ◌⊕◌, times as ◌⊗◌}

abbrev scale : StabilizerState → ℕ
scale s = 4144 - depth s

-- ---- entries by phases

entry-is : (s : StabilizerState) (y : ℕ) → entry s y ≡ rpow omegas (scale s) ⊗ term (phase s.body y)
entry-is s y = go (phase s.body y)
  where
    go : (a : Option ℕ) → scaled 4144 (amplitude_of s a) ≡ rpow omegas (scale s) ⊗ term a
    go (Some m) = scaled-unit 4144 (scale s) (neg_ℤ (pos (depth s))) m (below 4144 (depth s) (depth_le s))
    go None = scaled-nought 4144 ∙ sym (CommFacts.times_nil laws _)

-- a power of √2 times a string's term is not 0
term-some : (j : ℕ) (a : Option ℕ) (m : ℕ) → a ≡ Some m → rpow omegas j ⊗ term a ≡ nil → ⊥
term-some j a m e z = exact-not-nil j m (ap (λ x. rpow omegas j ⊗ term x) (sym e) ∙ z)

-- powers of √2 cancel
cancel : (j : ℕ) (x y : Omega) → rpow omegas j ⊗ x ≡ rpow omegas j ⊗ y → x ≡ y
cancel = RingFacts.rpow-same omega-laws double-same

module _ (m : PauliMasks) (P : Pauli) (s : StabilizerState) (h : SignedMasks P m) where
  doubled-is : (y : ℕ) → doubled P (entry s) y ≡ rpow omegas (scale s) ⊗ sum_at m s.body y
  doubled-is y =
      let f = flips P.letters in
      let r = rpow omegas (scale s) in
      let x = bit_xor y m.flips in
      let k = 2 * m.quarters + 4 * dot m.signs x in
      let moves : applied (pauli_matrix P) (entry s) y ≡ r ⊗ term (operated m s.body y) =
      ap₂ ◌⊗◌ (RingFacts.wpow-mod omega-laws (4 * P.minus + turns P.letters (bit_xor y f)) k
      (ap (λ z. (4 * P.minus + turns P.letters (bit_xor y z)) % 8) (sym h.flips) ∙ h.turns x))
      (ap (λ z. entry s (bit_xor y z)) (sym h.flips) ∙ entry-is s x)
      ∙ CommFacts.times_left_comm laws (wpow omegas k) r (term (phase s.body x))
      ∙ ap (◌⊗◌ r) (sym (term-turn k (phase s.body x))) in
      ap₂ ◌⊕◌ (entry-is s y) moves ∙ sym (laws.times_plus r _ _)

  -- ---- nothing is left, or all

  pub vanishes : ((y : ℕ) → sum_at m s.body y ≡ nil) → Vanishes P s
  vanishes z y l = doubled-is y ∙ ap (◌⊗◌ _) (z y) ∙ CommFacts.times_nil laws _

  pub stays : ((y : ℕ) → sum_at m s.body y ≡ two omegas ⊗ term (phase s.body y)) → Becomes P s s
  stays z y l =
      ap (◌⊗◌ (two omegas)) (entry-is s y) ∙ CommFacts.times_left_comm laws (two omegas) (rpow omegas (scale s)) (term (phase s.body y))
      ∙ ap (◌⊗◌ _) (sym (z y)) ∙ sym (doubled-is y)

-- a state that stays does not vanish
pub not-nothing : (P : Pauli) (s : StabilizerState) → Becomes P s s → Vanishes P s → ⊥
not-nothing P s b v =
    let y = s.body.space.shift in
    term-some (2 + scale s) (phase s.body y) _ (shift-phase s.body)
    (ap (λ x. x ⊗ term (phase s.body y)) (RingFacts.rpow-add omega-laws 2 (scale s)) ∙ laws.times_assoc _ _ _
    ∙ ap₂ ◌⊗◌ squared (sym (entry-is s y)) ∙ b y s.near ∙ v y s.near)

-- ---- another body

module _ (m : PauliMasks) (P : Pauli) (s : StabilizerState) (h : SignedMasks P m) (fits : m.flips < 2 ^ s.qubits) (t : PhasedSpace)
    (sum : Summed m s.body t) where
  abbrev f : ℕ
  f = m.flips

  abbrev shift : ℕ
  shift = t.space.shift

  -- the new strings have n bits, since each comes from one of the old
  string-below : (y i : ℕ) → phase t y ≡ Some i → y < 2 ^ s.qubits
  string-below y i e = go (phase s.body y) (phase s.body (bit_xor y f)) refl refl
    where
      old : (x j : ℕ) → phase s.body x ≡ Some j → x < 2 ^ s.qubits
      old = phases-below s.body s.qubits s.inside s.near

      go : (a b : Option ℕ) → phase s.body y ≡ a → phase s.body (bit_xor y f) ≡ b → y < 2 ^ s.qubits
      go (Some j) b p q = old y j p
      go None (Some j) p q = subst (λ x. x < 2 ^ s.qubits) (back y f) (xor_lt s.qubits (bit_xor y f) f (old (bit_xor y f) j q) fits)
      go None None p q =
          absurd (term-some sum.root (phase t y) i e (sym (sum.sums y)
          ∙ ap₂ (λ a b. term a ⊕ term (turn (2 * m.quarters + 4 * dot m.signs (bit_xor y f)) b)) p q ∙ laws.plus_nil nil))

  pub body_below : (t.space.pivots < 2 ^ s.qubits) × (t.space.shift < 2 ^ s.qubits)
  body_below = space-below t s.qubits string-below

  pub becomes : (s' : StabilizerState) → s'.body ≡ t → s'.loss ≡ s.loss + 1 → Becomes P s s'
  becomes s' b w y l =
      let p = term (phase t y) in
      let k : ones s'.body.space.pivots ≡ ones t.space.pivots = ap (λ x. ones x.space.pivots) b in
      let e : 2 + scale s' ≡ scale s + sum.root =
      let c = sum.balance in let i = depth_le s in let j = depth_le s' in omega arith in
      ap₂ ◌⊗◌ (sym squared) (entry-is s' y ∙ ap (λ x. rpow omegas (scale s') ⊗ term (phase x y)) b)
      ∙ sym (laws.times_assoc _ _ _) ∙ ap (λ x. x ⊗ p) (sym (RingFacts.rpow-add omega-laws 2 (scale s')) ∙ ap (rpow omegas) e
      ∙ RingFacts.rpow-add omega-laws (scale s) sum.root)
      ∙ laws.times_assoc _ _ _ ∙ ap (◌⊗◌ (rpow omegas (scale s))) (sym (sum.sums y)) ∙ sym (doubled-is m P s h y)

  pub not-vanished : Vanishes P s → ⊥
  not-vanished v =
      term-some (scale s + sum.root) (phase t shift) _ (shift-phase t)
      (ap (λ x. x ⊗ term (phase t shift)) (RingFacts.rpow-add omega-laws (scale s) sum.root) ∙ laws.times_assoc _ _ _
      ∙ ap (◌⊗◌ (rpow omegas (scale s))) (sym (sum.sums shift)) ∙ sym (doubled-is m P s h shift) ∙ v shift body_below.1)

  -- the old state would have to have the terms of the new one
  module _ (b : Becomes P s s) where
    terms : (y : ℕ) → y < 2 ^ s.qubits → rpow omegas 2 ⊗ term (phase s.body y) ≡ rpow omegas sum.root ⊗ term (phase t y)
    terms y l =
        cancel (scale s) _ _ (CommFacts.times_left_comm laws _ _ _ ∙ ap₂ ◌⊗◌ squared (sym (entry-is s y)) ∙ b y l ∙ doubled-is m P s h y
        ∙ ap (◌⊗◌ (rpow omegas (scale s))) (sum.sums y))

    root-two : sum.root ≡ 2
    root-two = go (phase s.body shift) refl
      where
        go : (a : Option ℕ) → phase s.body shift ≡ a → sum.root ≡ 2
        go (Some j) p =
            sym (exact_same 2 j sum.root _ (ap (λ a. rpow omegas 2 ⊗ term a) (sym p) ∙ terms shift body_below.1
            ∙ ap (λ a. rpow omegas sum.root ⊗ term a) (shift-phase t))).0
        go None p =
            absurd (term-some sum.root (phase t shift) _ (shift-phase t) (sym (terms shift body_below.1)
            ∙ ap (λ a. rpow omegas 2 ⊗ term a) p ∙ CommFacts.times_nil laws _))

    same-term : (y : ℕ) → y < 2 ^ s.qubits → term (phase s.body y) ≡ term (phase t y)
    same-term y l = cancel 2 _ _ (terms y l ∙ ap (λ r. rpow omegas r ⊗ term (phase t y)) root-two)

  -- so the old state would be the new one, with another dimension
  pub not_same : Becomes P s s → ⊥
  not_same b =
      let e = ap ones (pivots-same s.body.space t.space (
        λ y i. shared s.body t y (below_old y i) (same-term b y (below_old y i)) i,
        λ y i. shared t s.body y (below_new y i) (sym (same-term b y (below_new y i))) i,
      )) in
      let c = sum.balance in
      let r = root-two b in
      omega arith
    where
      below_old : (y : ℕ) → Member s.body.space y → y < 2 ^ s.qubits
      below_old y i = phases-below s.body s.qubits s.inside s.near y _ (phase-in s.body y i)

      below_new : (y : ℕ) → Member t.space y → y < 2 ^ s.qubits
      below_new y i = string-below y _ (phase-in t y i)

      shared : (u v : PhasedSpace) (y : ℕ) → y < 2 ^ s.qubits → term (phase u y) ≡ term (phase v y) → Member u.space y
          → Member v.space y
      shared u v y l e i = go (phase v y) refl
        where
          go : (a : Option ℕ) → phase v y ≡ a → Member v.space y
          go (Some j) p = has-phase v y j p
          go None p =
              absurd (term-some 0 (phase u y) _ (phase-in u y i) (ap (◌⊗◌ (rpow omegas 0)) (e ∙ ap term p) ∙ CommFacts.times_nil laws _))

  -- the new body with the weight one less is what the projection makes of the state
  pub lowered : (s' : StabilizerState) → s'.body ≡ t → s'.qubits ≡ s.qubits → s'.loss ≡ s.loss + 1 → Projected P s 0 s'
  lowered s' b q w = halved s' not-vanished not_same (becomes s' b w) q w
