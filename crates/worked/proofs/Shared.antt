-- What two states of one qubit have in common, from their bytes to their overlap.
use Rattle.std.proofs.Common.{◌≡◌, ℕ, ◌+◌, ◌-◌, ◌%◌, ◌<◌, ℤ, pos, negsuc, Some, sym, refl, ap, ◌∙◌, ap₂, inr, arith}
use native.Mathlib.Decide.{dec_lt}
use lib.IntN.{+ℤ_idl}
use Rattle.cyclotomic.specs.Adjoin.{omegas}
use Rattle.cyclotomic.specs.CommFacts
use Rattle.cyclotomic.specs.Exact.{Floor}
use Rattle.cyclotomic.specs.Ring.{Ops, CommLaws, wpow, root, exact}
use Rattle.cyclotomic.specs.Scalars.{triple_of, chosen}
use Rattle.cyclotomic.specs.declared.scalar.Scalar.{Scalar}
use Rattle.cyclotomic.proofs.Ints.{omega-laws}
use Rattle.cyclotomic.proofs.RingFacts
use Rattle.cyclotomic.proofs.Scalars.{exact-not-nil}
use Rattle.quadratic.specs.Phase.{phase, less}
use Rattle.quadratic.specs.Sums.{total, term_of}
use Rattle.quadratic.specs.declared.intersection.Intersection.{Intersection}
use Rattle.quadratic.specs.declared.phased.PhasedSpace.{PhasedSpace}
use Rattle.quadratic.proofs.Cases.{by_space}
use Rattle.quadratic.proofs.Enumerate.{sum-strings}
use Rattle.quadratic.proofs.Extent.{space-below}
use Rattle.stabilizer.specs.Overlaps.{Intersects, Overlaps, phase_inside, depth, lowered}
use Rattle.stabilizer.specs.declared.state.StabilizerState.{StabilizerState}
use Rattle.archive.specs.Bits.{bit_at, bits_from}
use Rattle.archive.specs.Writes.{RunOf}
use Rattle.worked.specs.Worked.{level, turned}
use Rattle.worked.proofs.Bytes.{level-run, turned-run}
use Rattle.worked.proofs.Forms.{two-terms, value-known}
use Rattle.worked.proofs.OneQubit.{Phases, both-phases, held_both}
use Rattle.worked.proofs.Places.{none}

pub level-phases : (s : StabilizerState) → RunOf s level → Phases (phase s.body) 0 0
level-phases s r = both-phases s.body 0 0 (held_both level 1 0 0 s level-run.bits r.holds)

pub turned-phases : (s : StabilizerState) → RunOf s turned → Phases (phase s.body) 0 2
turned-phases s r = both-phases s.body 0 2 (held_both turned 1 0 1 s turned-run.bits r.holds)

-- a sum over the two strings of one qubit
pub total-phases : {R : Type 0} {o : Ops R} → CommLaws o → (x : Intersection) (a b : ℕ) → Phases (phase_inside x) a b
    → total o x ≡ two-terms o a b
total-phases {R} {o} laws x a b =
    by_space (λ x. Phases (phase_inside x) a b → total o x ≡ two-terms o a b) (λ h. none h.zeroth)
    (λ m h.
    sum-strings laws m 1 (space-below m 1 (λ y v e. below m h y v e (dec_lt y 2)))
    ∙ ap₂ (λ p q. o.plus (o.plus o.nil (term_of o p)) (term_of o q)) h.zeroth h.first)
    x
  where
    below : (m : PhasedSpace) → Phases (phase m) a b → (y v : ℕ) → phase m y ≡ Some v → Dec (y < 2) → y < 2
    below m h y v e (yes l) = l
    below m h y v e (no l) = none (sym (h.past y (omega arith)) ∙ e)

-- 1 + i and 1 - i
pub plus-quarter : omegas.plus omegas.one (wpow omegas 2) ≡ omegas.times (root omegas) (wpow omegas 1)
plus-quarter = RingFacts.one-two omega-laws ∙ ap (omegas.times (root omegas)) (sym (omega-laws.comm.times_one omegas.w))

terms-root : (a m : ℕ) → omegas.plus omegas.one (wpow omegas a) ≡ omegas.times (root omegas) (wpow omegas m)
    → two-terms omegas 0 a ≡ exact omegas 1 m
terms-root a m h = ap (λ z. omegas.plus z (wpow omegas a)) (CommFacts.nil_plus omega-laws.comm omegas.one) ∙ h
    ∙ ap (λ z. omegas.times z (wpow omegas m)) (sym (omega-laws.comm.times_one (root omegas)))

pub plus-terms : two-terms omegas 0 2 ≡ exact omegas 1 1
plus-terms = terms-root 2 1 plus-quarter

pub minus-terms : two-terms omegas 0 6 ≡ exact omegas 1 7
minus-terms = terms-root 6 7 (RingFacts.one-six omega-laws)

pub level-depth : (s : StabilizerState) → RunOf s level → depth s ≡ 2
unfolding bits_from bit_at
level-depth s r = ap₂ ◌+◌ r.holds.weight r.holds.spans.count

pub turned-depth : (s : StabilizerState) → RunOf s turned → depth s ≡ 2
unfolding bits_from bit_at
turned-depth s r = ap₂ ◌+◌ r.holds.weight r.holds.spans.count

-- what two states with the phases 0 and a, 0 and b have in common
module _ (t s : StabilizerState) (a b : ℕ) (p : Phases (phase t.body) 0 a) (q : Phases (phase s.body) 0 b) where
  pub shared-phases : (x : Intersection) → Intersects x t s → Phases (phase_inside x) 0 ((b + (8 - a)) % 8)
  shared-phases x h = record {
    zeroth = h 0 ∙ ap₂ less q.zeroth p.zeroth;
    first = h 1 ∙ ap₂ less q.first p.first;
    past = λ y l. h y ∙ ap (λ o. less o (phase t.body y)) (q.past y l);
  }

  -- their overlap, where the sum is √2 ω^m
  pub overlap-known : (m : ℕ) → m < 8 → two-terms omegas 0 ((b + (8 - a)) % 8) ≡ exact omegas 1 m → depth t ≡ 2 → depth s ≡ 2
      → (x : Scalar) → Overlaps x t s → triple_of x ≡ (1, negsuc 2, m)
  overlap-known m l e dt ds x h =
      let sum = h.sum in
      let value = h.exact ∙ total-phases omega-laws.comm h.both 0 _ (shared-phases h.both h.shared) ∙ e in
      let y = triple_of sum in
      let high = floor y.0 y.1 y.2 value in
      let known = value-known sum (1, pos 1, m) high (inr (refl, l)) (λ o. (1, refl)) value in
      h.value ∙ ap₂ lowered known (ap₂ ◌+◌ dt ds)
    where
      floor : (d : ℕ) (p : ℤ) (j : ℕ) → chosen omegas d p j ≡ exact omegas 1 m → Floor 0 (d, p, j)
      floor d (pos k) j e o = (k, +ℤ_idl (pos k))
      floor d (negsuc k) j e o = absurd (exact-not-nil 1 m (sym e ∙ ap (λ d. chosen omegas d (negsuc k) j) o))
