-- The entries of a state of one qubit, and the state that twice its entries tell.
use Rattle.std.proofs.Common.{◌≡◌, ℕ, suc, ◌+◌, ◌-◌, ◌<◌, pos, ◌+ℤ◌, neg_ℤ, Some, None, Option, sym, refl, ap, ◌∙◌, mod-eq_of_lt, arith}
use borrow.Author.Differences.{ints}
use Rattle.cyclotomic.specs.Adjoin.{omegas}
use Rattle.cyclotomic.specs.CommFacts
use Rattle.cyclotomic.specs.Exact.{scaled}
use Rattle.cyclotomic.specs.Ring.{two, wpow, root, rpow, exact}
use Rattle.cyclotomic.proofs.Exact.{scaled-nought, scaled-unit}
use Rattle.cyclotomic.proofs.Ints.{omega-laws}
use Rattle.cyclotomic.proofs.RingFacts
use Rattle.cyclotomic.proofs.Scalars.{exact-not-nil, exact_same}
use Rattle.quadratic.specs.Phase.{phase}
use Rattle.quadratic.proofs.Extent.{phase-lt}
use Rattle.stabilizer.specs.Overlaps.{depth}
use Rattle.stabilizer.specs.States.{amplitude_of}
use Rattle.stabilizer.specs.Vectors.{entry}
use Rattle.stabilizer.specs.declared.state.StabilizerState.{StabilizerState}
use Rattle.stabilizer.proofs.Inner.{depth_le}

infixl 70 ◌⊗◌
open omegas use {nil, times as ◌⊗◌}

pub entry-some : (s : StabilizerState) (k y m : ℕ) → k + depth s ≡ 4144 → phase s.body y ≡ Some m → entry s y ≡ exact omegas k m
entry-some s k y m h e = ap (λ o. scaled 4144 (amplitude_of s o)) e ∙ scaled-unit 4144 k (neg_ℤ (pos (depth s))) m (left k (depth s) h)
  where
    left : (k d : ℕ) → k + d ≡ 4144 → pos 4144 +ℤ neg_ℤ (pos d) ≡ pos k
    left k d h = omega (arith, ints)

pub entry-none : (s : StabilizerState) (y : ℕ) → phase s.body y ≡ None → entry s y ≡ nil
entry-none s y e = ap (λ o. scaled 4144 (amplitude_of s o)) e ∙ scaled-nought 4144

-- twice a power of √2
twice : (k m : ℕ) → two omegas ⊗ exact omegas k m ≡ exact omegas (suc (suc k)) m
twice k m =
    let assoc = omega-laws.comm.times_assoc in
    let r = root omegas in
    ap (λ x. x ⊗ exact omegas k m) (sym (RingFacts.root-square omega-laws)) ∙ assoc r r (exact omegas k m)
    ∙ ap (◌⊗◌ r) (sym (assoc r (rpow omegas k) (wpow omegas m))) ∙ sym (assoc r (r ⊗ rpow omegas k) (wpow omegas m))

-- the phase at a string and the depth, from twice the entry there
pub entry_known : (s : StabilizerState) (y k m : ℕ) → m < 8 → two omegas ⊗ entry s y ≡ exact omegas k m
    → (phase s.body y ≡ Some m) × (depth s + k ≡ 4146)
entry_known s y k m l h = go (phase s.body y) refl
  where
    go : (o : Option ℕ) → phase s.body y ≡ o → (phase s.body y ≡ Some m) × (depth s + k ≡ 4146)
    go None e = absurd (exact-not-nil k m (sym h ∙ ap (◌⊗◌ (two omegas)) (entry-none s y e)
        ∙ CommFacts.times_nil omega-laws.comm (two omegas)))
    go (Some v) e =
        let j = 4144 - depth s in
        let d = depth_le s in
        let all : j + depth s ≡ 4144 = omega arith in
        let same = exact_same (suc (suc j)) v k m (sym (twice j v) ∙ ap (◌⊗◌ (two omegas)) (sym (entry-some s j y v all e)) ∙ h) in
        let own = sym (mod-eq_of_lt (phase-lt s.body y v e)) ∙ same.1 ∙ mod-eq_of_lt l in
        (e ∙ ap Some own, omega (arith, same.0))
